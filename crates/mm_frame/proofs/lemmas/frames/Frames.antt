-- The four facts of a frame.
use Rattle.std.proofs.lemmas.{List.{get_or-map, length-map, Kept.{AllPairs-cons, AllPairs-filter}}, Bool.{lt-ltb, not-false, true≢false, or_cases, or_right, and_from, false_from_ne_true, and_parts}}
use Rattle.std.proofs.lemmas.Grind.{common_steps}
use Rattle.std.proofs.Common.{◌≡◌, ◌≢◌, ℕ, zero, suc, ◌<◌, Bool, true, false, cond, ◌&&◌, Some, List, [], ◌∷◌, ◌++◌, length, map, filter, take, slice_get, slice_index_or, get_or, refl, sym, ◌∙◌, ap}
use Rattle.std.{proofs.Common.{subst, append_assoc, arith, inl, inr, ◌⊎◌}, specs.Prelude.{All, AllPairs}}
use Rattle.mm_frame.proofs.lemmas.scope.Facts.{sound_front, and_rest, no_symbol_of, not_constant, first_constant, known, float_variable, float_new, float_two}
use Rattle.mm_frame.proofs.lemmas.{scope.ActiveBySplit.{stays_join, stays_neither, active_split, split_active, stays_front}, faults.FoundFaults.{none_sound, kept_after_sound}}
use Rattle.mm_frame.proofs.lemmas.lists.Members.{In, in_contains, contains_in, in_left, in_right, in_cases, in_map, from_map, in_filter, from_filter, from_flat, in_get, has_in, in_has, from_symbols}
use Rattle.mm_frame.{proofs.lemmas.lists.Members.{to_symbols, in_cond}, specs.Language.Sound.{AreSound, is_untyped, as_later, IsSound, sound_items}}
use Rattle.mm_frame.specs.Language.{Scope.{stays, active, symbols_by, constants, active_variables, typed, floats}, Marks.{Neither, mark_of}}
use Rattle.mm_frame.specs.Language.Framing.{symbol, expression, mandatory_variables, is_mandatory, hypothesis, mandatory_hypotheses, pairs_of, active_pairs, is_mandatory_pair, frame, meaning}
use Rattle.mm_frame.specs.{Language.Framing.{resolve_from, setting_of}, declared.FrameNumber.TheVariants.{F11}}
use Rattle.mm_machine.specs.Language.{Frame.{Symbol, Mandatory, Frame, Hypothesis, Assertion, Inactive, HasVariable}, Typing.{IsTyped, IsTyping, IsFrame, HasFrames}}
use Rattle.mm_statement.specs.Language.Item.{Kind, Said, is_kind, Disjoint, Essential, Floating, Variables, is_expression, is_labelled, is_assertion, has, labels_of, variable_of}

-- kinds
pub float_labelled : (k : Kind) → is_kind Floating k ≡ true → is_labelled k ≡ true
float_labelled k e = grind (arith, common_steps) steps 200000

pub essential_expression : (k : Kind) → is_kind Essential k ≡ true → is_expression k ≡ true
essential_expression k e = grind (arith, common_steps) steps 200000

pub essential_neither : (k : Kind) → is_kind Essential k ≡ true → mark_of k ≡ Neither
essential_neither k e = grind (arith, common_steps) steps 200000

pub assertion_expression : (k : Kind) → is_assertion k ≡ true → is_expression k ≡ true
assertion_expression k e = grind (arith, common_steps) steps 200000

pub expression_labelled : (k : Kind) → is_expression k ≡ true → is_labelled k ≡ true
expression_labelled k e = grind (arith, common_steps) steps 200000

-- what was declared or active before an active statement
pub constants_later : (front : List Said) (e : Said) (back : List Said) (n : List ℕ) → In n (constants front) → In n (constants (front ++ e ∷ back))
constants_later front e back n h = grind (arith, common_steps, from_symbols, in_left, to_symbols) steps 200000

active_later : (front : List Said) (e : Said) (back : List Said) (x : Said) → mark_of e.kind ≡ Neither → stays back ≡ true → In x (active front) → In x (active (front ++ e ∷ back))
active_later front e back x m s h = grind (arith, common_steps, active_split, split_active, stays_join, stays_neither e back m s, h) steps 200000

pub variables_later : (front : List Said) (e : Said) (back : List Said) (n : List ℕ) → mark_of e.kind ≡ Neither → stays back ≡ true → In n (active_variables front) → In n (active_variables (front ++ e ∷ back))
variables_later front e back n m s h =
    let r = from_symbols (is_kind Variables) n (active front) h in
    to_symbols (is_kind Variables) n (active (front ++ e ∷ back)) r.0 (active_later front e back r.0 m s r.1) r.2 r.3

-- an active `$f` with its variable
pub from_typed : (xs : List Said) (n : List ℕ) → In n (typed xs) → (f : Said) × In f (active xs) × (is_kind Floating f.kind ≡ true) × (variable_of f ≡ n)
from_typed xs n h = grind (arith, common_steps, from_map variable_of n (floats (active xs)) h, from_filter) steps 200000

pub to_typed : (xs : List Said) (f : Said) → In f (active xs) → is_kind Floating f.kind ≡ true → In (variable_of f) (typed xs)
to_typed xs f h t = in_map variable_of f (floats (active xs)) (in_filter (λ (item : Said). is_kind Floating item.kind) f (active xs) h t)

typed_later : (front : List Said) (e : Said) (back : List Said) (n : List ℕ) → mark_of e.kind ≡ Neither → stays back ≡ true → In n (typed front) → In n (typed (front ++ e ∷ back))
typed_later front e back n m s h =
    let r = from_typed front n h in
    subst (λ v. In v (typed (front ++ e ∷ back))) r.3 (to_typed (front ++ e ∷ back) r.0 (active_later front e back r.0 m s r.1) r.2)

-- each variable of a sound expression is typed
variable_typed : (before : List Said) (item : Said) (name : List ℕ) → AreSound before → IsSound before item → is_expression item.kind ≡ true → In name item.symbols → In name (active_variables before) → In name (typed before)
variable_typed before item name k s t h v = by_place (in_get name item.symbols h)
  where
    by_place : (p : (k : ℕ) × (slice_get item.symbols k ≡ Some name)) → In name (typed before)
    by_place (zero, g) = absurd (not_constant before k name (first_constant before item name s (expression_labelled item.kind t) g) v)
    by_place (suc j, g) =
        let f = no_symbol_of (is_expression item.kind) (as_later (is_untyped before)) item (λ word. s word F11) t (suc j) name g in
        grind (arith, common_steps, and_rest, lt-ltb, in_has, has_in, not-false) steps 200000

-- a name of a sound expression is a constant or an active variable
name_known : (before : List Said) (item : Said) (name : List ℕ) → IsSound before item → is_expression item.kind ≡ true → In name item.symbols → In name (constants before) ⊎ In name (active_variables before)
name_known before item name s t h = by_place (in_get name item.symbols h)
  where
    by_place : (p : (k : ℕ) × (slice_get item.symbols k ≡ Some name)) → In name (constants before) ⊎ In name (active_variables before)
    by_place (zero, g) = inl (first_constant before item name s (expression_labelled item.kind t) g)
    by_place (suc j, g) = known before item j name s t g

-- each variable of an active `$e` is typed
pub essential_typed : (before : List Said) (e : Said) (name : List ℕ) → AreSound before → In e (active before) → is_kind Essential e.kind ≡ true → In name e.symbols → In name (active_variables before) → In name (typed before)
essential_typed before e name k h t n v =
    let s = active_split before e h in
    let sound = k s.front e s.back s.whole in
    let x = essential_expression e.kind t in
    elim (name_known s.front e name sound x n) [
      | inl c ↦ absurd (not_constant before k name (subst (λ w. In name (constants w)) (sym s.whole) (constants_later s.front e s.back name c)) v)
      | inr a ↦ subst (λ w. In name (typed w)) (sym s.whole)
          (typed_later s.front e s.back name (essential_neither e.kind t) s.stayed
          (variable_typed s.front e name (sound_front s.front (e ∷ s.back) (subst AreSound s.whole k)) sound x n a))
    ]

-- each mandatory variable is typed
pub mandatory_typed : (before : List Said) (item : Said) (name : List ℕ) → AreSound before → IsSound before item → is_expression item.kind ≡ true
    → In name (mandatory_variables before item) → In name (active_variables before) × In name (typed before)
mandatory_typed before item name k s t h =
    let f = from_filter (has (active_variables before)) name (item.symbols ++ symbols_by (is_kind Essential) (active before)) h in
    let v = has_in (active_variables before) name f.1 in (
      v,
      elim (in_cases name item.symbols (symbols_by (is_kind Essential) (active before)) f.0) [
        | inl a ↦ variable_typed before item name k s t a v
        | inr b ↦ (let r = from_symbols (is_kind Essential) name (active before) b in essential_typed before r.0 name k r.1 r.2 r.3 v)
      ],
    )

-- an active `$f`, as its hypothesis is read
pub record Float (before : List Said) (f : Said) : Type 0 where
  pub typecode : List ℕ
  pub name : List ℕ
  pub both : f.symbols ≡ typecode ∷ name ∷ []
  pub constant : has (active_variables before) typecode ≡ false
  pub variable : has (active_variables before) name ≡ true

pub float_of : (before : List Said) (f : Said) → AreSound before → In f (active before) → is_kind Floating f.kind ≡ true → Float before f
float_of before f k h t =
    let s = active_split before f h in
    let sound = k s.front f s.back s.whole in
    let two = float_two s.front f sound t in
    let v = float_variable s.front f two.1 sound t (ap (λ w. slice_get w 1) two.2) in
    grind (
      arith,
      common_steps,
      constants_later s.front f s.back two.0 (first_constant s.front f two.0 sound (float_labelled f.kind t) (ap (λ w. slice_get w 0) two.2)),
      variables_later s.front f s.back two.1 (grind (arith, common_steps) steps 200000) s.stayed v,
      false_from_ne_true,
      not_constant,
      has_in,
      in_has,
    ) steps 200000

pub float_name : (before : List Said) (f : Said) (x : Float before f) → variable_of f ≡ x.name
float_name before f x = ap (λ w. slice_index_or w 1 []) x.both

-- a mandatory variable has a mandatory `$f`
named_typed : (before : List Said) (item : Said) (name : List ℕ) → AreSound before → IsSound before item → is_expression item.kind ≡ true → In name (mandatory_variables before item) → IsTyped (mandatory_hypotheses before item) (symbol before name)
named_typed before item name k s t h =
    let r = from_typed before name (mandatory_typed before item name k s t h).1 in
    let x = float_of before r.0 k r.1 r.2 in
    let same : x.name ≡ name = sym (float_name before r.0 x) ∙ r.3 in
    let mandatory = or_right (is_kind Essential (r.0).kind) (is_kind Floating (r.0).kind && has (mandatory_variables before item) (variable_of r.0))
    (and_from (is_kind Floating (r.0).kind) (has (mandatory_variables before item) (variable_of r.0)) r.2 (in_has (mandatory_variables before item) (variable_of r.0) (subst (λ w. In w (mandatory_variables before item)) (sym r.3) h))) in
    let there = in_map (hypothesis before) r.0 (filter (is_mandatory (mandatory_variables before item)) (active before)) (in_filter (is_mandatory (mandatory_variables before item)) r.0 (active before) r.1 mandatory) in
    let e : expression before r.0 ≡ symbol before x.typecode ∷ symbol before name ∷ [] = ap (map (symbol before)) x.both ∙ ap (λ w. symbol before x.typecode ∷ symbol before w ∷ []) same in
    let whole : hypothesis before r.0 ≡ record { floating = true; expression = symbol before x.typecode ∷ symbol before name ∷ [] } = λ i. record { floating = r.2 i; expression = e i } in
    (symbol before x.typecode, x.constant, in_contains _ (mandatory_hypotheses before item) (subst (λ w. In w (mandatory_hypotheses before item)) whole there))

-- a variable of an expression that is read after these items
pub read_variable : (before : List Said) (names : List (List ℕ)) (v : Symbol) → HasVariable (map (symbol before) names) v → (name : List ℕ) × In name names × In name (active_variables before) × (symbol before name ≡ v)
read_variable before names v h = grind (arith, common_steps, from_map (symbol before) v names (contains_in v (map (symbol before) names) h.0), has_in) steps 200000

-- two `$f` of different variables
abbrev pub TypeOthers : Said → Said → Type 0
TypeOthers f g = is_kind Floating f.kind ≡ true → is_kind Floating g.kind ≡ true → variable_of f ≢ variable_of g

pub in_at : {X : Type 0} (xs : List X) (k : ℕ) (d : X) → k < length xs → In (get_or xs k d) xs
in_at [] k d l = absurd (omega arith)
in_at (x ∷ xs) zero d l = inl refl
in_at (x ∷ xs) (suc k) d l = inr (in_at xs k d (omega arith))

others : (front : List Said) (x : Said) (back : List Said) → AreSound (front ++ x ∷ back) → stays back ≡ true → (y : Said) → In y (active back) → TypeOthers x y
others front x back k s y h fx fy e =
    let t = active_split back y h in
    let sound = k (front ++ x ∷ t.front) y t.back (ap (λ w. front ++ x ∷ w) t.whole ∙ sym (append_assoc front (x ∷ t.front) (y ∷ t.back))) in
    let there = to_typed (front ++ x ∷ t.front) x (split_active front x t.front (stays_front t.front (y ∷ t.back) (subst (λ w. stays w ≡ true) t.whole s))) fx in
    let two = float_two (front ++ x ∷ t.front) y sound fy in
    let name : variable_of y ≡ two.1 = ap (λ w. slice_index_or w 1 []) two.2 in
    float_new (front ++ x ∷ t.front) y two.1 sound fy (ap (λ w. slice_get w 1) two.2) (subst (λ w. In w (typed (front ++ x ∷ t.front))) (e ∙ name) there)

pairs_if : (b : Bool) (x : Said) (xs : List Said) → (b ≡ true → All (TypeOthers x) xs) → AllPairs TypeOthers xs → AllPairs TypeOthers (cond b (x ∷ xs) xs)
pairs_if true x xs a p = AllPairs-cons TypeOthers x xs (a refl) p
pairs_if false x xs a p = p

active_typed_once : (front xs : List Said) → AreSound (front ++ xs) → AllPairs TypeOthers (active xs)
active_typed_once front [] k = λ i j d l m. absurd (omega arith)
active_typed_once front (x ∷ xs) k =
    pairs_if (stays xs) x (active xs) (λ s. λ i d l. others front x xs k s (get_or (active xs) i d) (in_at (active xs) i d l)) (active_typed_once (front ++ x ∷ []) xs (subst AreSound (sym (append_assoc front (x ∷ []) xs)) k))

pairs_map : {X Y : Type 0} (R : X → X → Type 0) (S : Y → Y → Type 0) (f : X → Y) (xs : List X) → ((x y : X) → In x xs → In y xs → R x y → S (f x) (f y)) → AllPairs R xs → AllPairs S (map f xs)
pairs_map R S f [] g p i j d l m = absurd (omega arith)
pairs_map R S f (x ∷ xs) g p i j d l m =
    let w : j < length (x ∷ xs) = omega (arith, m, length-map (x ∷ xs) f) in
    let v : i < length (x ∷ xs) = omega arith in
    subst (λ b. S (get_or (map f (x ∷ xs)) i d) b) (sym (get_or-map f (x ∷ xs) j x d w))
    (subst (λ a. S a (f (get_or (x ∷ xs) j x))) (sym (get_or-map f (x ∷ xs) i x d v))
    (g (get_or (x ∷ xs) i x) (get_or (x ∷ xs) j x) (in_at (x ∷ xs) i x v) (in_at (x ∷ xs) j x w) (p i j x l w)))

-- what a hypothesis of a frame comes from
pub hypothesis_from : (before : List Said) (item : Said) (h : Mandatory) → In h (mandatory_hypotheses before item) → (f : Said) × In f (active before) × (is_mandatory (mandatory_variables before item) f ≡ true) × (hypothesis before f ≡ h)
hypothesis_from before item h c = grind (arith, common_steps, from_filter, from_map) steps 200000

-- each variable of a mandatory hypothesis is mandatory
pub hypothesis_mandatory : (before : List Said) (item f : Said) (name : List ℕ) → AreSound before → In f (active before)
    → is_mandatory (mandatory_variables before item) f ≡ true → In name f.symbols → In name (active_variables before)
    → In name (mandatory_variables before item)
hypothesis_mandatory before item f name k h m n v = elim (or_cases (is_kind Essential f.kind) (is_kind Floating f.kind && has (mandatory_variables before item) (variable_of f)) m) [
  | inl e ↦ in_filter (has (active_variables before)) name (item.symbols ++ symbols_by (is_kind Essential) (active before))
      (in_right name item.symbols (symbols_by (is_kind Essential) (active before)) (to_symbols (is_kind Essential) name (active before) f h e n))
      (in_has (active_variables before) name v)
  | inr b ↦ (let p = and_parts (is_kind Floating f.kind) (has (mandatory_variables before item) (variable_of f)) b in
      let x = float_of before f k h p.0 in
      elim (subst (λ w. In name w) x.both n) [
        | inl first ↦ absurd (true≢false (sym (in_has (active_variables before) name v) ∙ ap (has (active_variables before)) (sym first) ∙ x.constant))
        | inr more ↦ grind (arith, common_steps, float_name before f x, has_in (mandatory_variables before item) (variable_of f) p.1) steps 200000
      ])
]

expression_typed : (before : List Said) (item : Said) → AreSound before → IsSound before item → is_expression item.kind ≡ true → (v : Symbol) → HasVariable (expression before item) v → IsTyped (mandatory_hypotheses before item) v
expression_typed before item k s t v h =
    let r = read_variable before item.symbols v h in
    let m = in_filter (has (active_variables before)) r.0 (item.symbols ++ symbols_by (is_kind Essential) (active before)) (in_left r.0 item.symbols (symbols_by (is_kind Essential) (active before)) r.1) (in_has (active_variables before) r.0 r.2) in
    subst (IsTyped (mandatory_hypotheses before item)) r.3 (named_typed before item r.0 k s t m)

typed_once : (before : List Said) (item : Said) → AreSound before → AllPairs (λ h g. h.floating ≡ true → g.floating ≡ true → slice_get h.expression 1 ≢ slice_get g.expression 1) (mandatory_hypotheses before item)
typed_once before item k =
    pairs_map TypeOthers (λ (h g : Mandatory). h.floating ≡ true → g.floating ≡ true → slice_get h.expression 1 ≢ slice_get g.expression 1) (hypothesis before) (filter (is_mandatory (mandatory_variables before item)) (active before))
    (λ x y hx hy r fx fy e.
    let u = float_of before x k (from_filter (is_mandatory (mandatory_variables before item)) x (active before) hx).0 fx in
    let v = float_of before y k (from_filter (is_mandatory (mandatory_variables before item)) y (active before) hy).0 fy in
    let n : symbol before u.name ≡ symbol before v.name = cc in
    r fx fy (float_name before x u ∙ ap (λ (w : Symbol). w.name) n ∙ sym (float_name before y v)))
    (AllPairs-filter TypeOthers (is_mandatory (mandatory_variables before item)) (active before) (active_typed_once [] before k))

pub from_pairs : (pair : Symbol × Symbol) (xs : List Symbol) → In pair (pairs_of xs) → In pair.0 xs × In pair.1 xs
from_pairs pair [] h = absurd h
from_pairs pair (x ∷ xs) h = elim (in_cases pair (map (λ y. (x, y)) xs) (pairs_of xs) h) [
  | inl a ↦ (let r = from_map (λ (y : Symbol). (x, y)) pair xs a in
      (inl (ap (λ (p : Symbol × Symbol). p.0) r.2), inr (subst (λ w. In w xs) (ap (λ (p : Symbol × Symbol). p.1) r.2) r.1)))
  | inr b ↦ (let r = from_pairs pair xs b in (inr r.0, inr r.1))
]

side_typed : (before : List Said) (item d : Said) → AreSound before → IsSound before item → is_expression item.kind ≡ true → (s : Symbol)
    → In s (expression before d) → has (mandatory_variables before item) s.name ≡ true → (s.variable ≡ true) × IsTyped (mandatory_hypotheses before item) s
side_typed before item d k t x s h m =
    let r = from_map (symbol before) s d.symbols h in
    let n = subst (λ (w : Symbol). In w.name (mandatory_variables before item)) (sym r.2) (has_in (mandatory_variables before item) s.name m) in
    (ap (λ (w : Symbol). w.variable) (sym r.2) ∙ (in_has (active_variables before) r.0 (mandatory_typed before item r.0 k t x n).0), subst (IsTyped (mandatory_hypotheses before item)) r.2 (named_typed before item r.0 k t x n))

pub pairs_typed_at : (before : List Said) (item : Said) → AreSound before → IsSound before item → is_expression item.kind ≡ true
    → (pair : Symbol × Symbol) → In pair (filter (is_mandatory_pair (mandatory_variables before item)) (active_pairs before))
    → (pair.0.variable ≡ true) × (pair.1.variable ≡ true) × IsTyped (mandatory_hypotheses before item) pair.0 × IsTyped (mandatory_hypotheses before item) pair.1
pairs_typed_at before item k s t pair h =
    let f = from_filter (is_mandatory_pair (mandatory_variables before item)) pair (active_pairs before) h in
    let r = from_flat (λ (d : Said). cond (is_kind Disjoint d.kind) (pairs_of (expression before d)) []) pair (active before) f.0 in
    let p = from_pairs pair (expression before r.0) (in_cond (is_kind Disjoint (r.0).kind) pair (pairs_of (expression before r.0)) r.2).1 in
    let m = and_parts (has (mandatory_variables before item) pair.0.name) (has (mandatory_variables before item) pair.1.name) f.1 in
    grind (arith, common_steps, side_typed before item r.0 k s t pair.0 p.0 m.0, side_typed before item r.0 k s t pair.1 p.1 m.1) steps 200000

pub is_frame : (before : List Said) (item : Said) → AreSound before → IsSound before item → is_expression item.kind ≡ true → IsFrame (frame before item)
is_frame before item k s t = record {
  expression_typed = expression_typed before item k s t;
  hypotheses_typed =
      (λ h c v w. let f = hypothesis_from before item h (contains_in h (mandatory_hypotheses before item) c) in
      let r = read_variable before (f.0).symbols v (subst (λ (x : Mandatory). HasVariable x.expression v) (sym f.3) w) in
      subst (IsTyped (mandatory_hypotheses before item)) r.3 (named_typed before item r.0 k s t (hypothesis_mandatory before item f.0 r.0 k f.1 f.2 r.1 r.2)));
  pairs_typed = λ i d l. pairs_typed_at before item k s t (get_or (frame before item).pairs i d) (in_at (frame before item).pairs i d l);
  typings =
      λ i d l. (λ t. let f = hypothesis_from before item (get_or (mandatory_hypotheses before item) i d) (in_at (mandatory_hypotheses before item) i d l) in
      let x = float_of before f.0 k f.1 (ap (λ (w : Mandatory). w.floating) f.3 ∙ t) in
      subst (λ (w : Mandatory). IsTyping w.expression) f.3
      (symbol before x.typecode, symbol before x.name, ap (map (symbol before)) x.both, x.constant, x.variable));
  typed_once = typed_once before item k;
}

-- what resolves to an assertion is one that is sound
resolved_at : (whole front : List Said) (item : Said) (back : List Said) (label : List ℕ) (f : Frame) (b : Bool) → AreSound (front ++ item ∷ back)
    → cond b (meaning whole front item back) (resolve_from whole (front ++ item ∷ []) back label) ≡ Assertion f
    → (resolve_from whole (front ++ item ∷ []) back label ≡ Assertion f → IsFrame f) → IsFrame f
resolved_at whole front item back label f true k e r = by_kind (is_assertion item.kind) (stays back) refl e
  where
    by_kind : (a s : Bool) → is_assertion item.kind ≡ a → cond a (Assertion (frame front item)) (cond s (Hypothesis (expression whole item)) Inactive) ≡ Assertion f → IsFrame f
    by_kind true s t h = let same : frame front item ≡ f = cc in subst IsFrame same (is_frame front item (sound_front front (item ∷ back) k) (k front item back refl) (assertion_expression item.kind t))
    by_kind false true t h = cc
    by_kind false false t h = cc
resolved_at whole front item back label f false k e r = r e

resolved : (whole front back : List Said) (label : List ℕ) (f : Frame) → AreSound (front ++ back) → resolve_from whole front back label ≡ Assertion f → IsFrame f
resolved whole front [] label f k e = cc
resolved whole front (item ∷ back) label f k e = resolved_at whole front item back label f (has (labels_of item) label) k e
    (λ h. resolved whole (front ++ item ∷ []) back label f (subst AreSound (sym (append_assoc front (item ∷ []) back)) k) h)

pub has_frames : (items : List Said) (j : ℕ) → HasFrames (setting_of items j)
has_frames items j label f e = resolved (sound_items (take j items)) [] (sound_items (take j items)) label f (kept_after_sound [] (take j items) none_sound) e
