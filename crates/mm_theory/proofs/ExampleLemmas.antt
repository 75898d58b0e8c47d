-- What is provable in small systems, and what is not.
use Rattle.std.proofs.lemmas.{Option.{same_Some}, List.{append-nil}}
use Rattle.std.proofs.Common.{◌≡◌, ◌≢◌, ◌⊎◌, ℕ, Bool, true, false, cond, Some, None, List, [], ◌∷◌, ◌++◌, length, refl, sym, ap, ◌∙◌, subst, inl, inr, arith, codes, Contains, slice_index_or}
use Rattle.std.specs.Prelude.{nat_eq}
use Rattle.mm_frame.specs.{mm_machine.Language.{Frame.{Symbol, Mandatory, Frame, ArePair}, Substitution.{substituted}}, Language.Base.{frame_at}}
use Rattle.mm_theory.specs.Language.System.{AreApartBy, IsInClosure, by_type, by_hypothesis, by_axiom, symbols_of, MayBePaired, IsProvable}
use Rattle.mm_theory.specs.Language.Examples.{X, P, Q, x, y, float, system, untyped, pair, two, turned, one, from_one, from_two, goal, PairsAreNeeded, DummiesAreNeeded, DummiesArePaired, AxiomIsUsed}
use Rattle.mm_theory.specs.Language.{Examples.{AxiomsAreNeeded, VariablesAreReplacedAtOnce, VariablesAreTyped, implied, small_system}, Databases.{system_of}}
use Rattle.mm_theory.proofs.Members.{none, only_one, here, there, first_or_later}
use Rattle.mm_frame.specs.Language.Examples as small

-- ---- symbols, and lists of few members

abbrev byte : Symbol → ℕ
byte s = slice_index_or s.name 0 0

abbrev first : List Symbol → ℕ
first [] = 0
first (s ∷ e) = byte s

x_not_y : x ≢ y
x_not_y e = let q : ◌≡◌ {A = ℕ} 120 121 = ap byte e in omega (arith, q)

one_of_two : {A : Type 0} (a b c : A) → Contains (a ∷ b ∷ []) c → (a ≡ c) ⊎ (b ≡ c)
one_of_two a b c h = elim (first_or_later a (b ∷ []) c h) [ inl e ↦ inl e | inr k ↦ inr (only_one b c k) ]

abbrev just : Symbol → List Symbol
just v = v ∷ []

-- y in the place of x, and x in the place of others
abbrev exchanged : Symbol → List Symbol
exchanged v = cond (nat_eq (byte v) 120) (y ∷ []) (x ∷ [])

-- ---- apart

apart_singles : (IsPair : Symbol → Symbol → Type 0) (xs ys : List Symbol) (a b : Symbol) → xs ≡ a ∷ [] → ys ≡ b ∷ [] → a ≢ b → IsPair a b → AreApartBy IsPair xs ys
apart_singles IsPair xs ys a b ea eb other are s t h k =
    let i = only_one a s (subst (λ (l : List Symbol). Contains l s) ea h.0) in
    let j = only_one b t (subst (λ (l : List Symbol). Contains l t) eb k.0) in
    ((λ e. other (i ∙ e ∙ sym j)), subst (λ (z : Symbol). IsPair z t) i (subst (λ (z : Symbol). IsPair a z) j are))

-- what is given for x and for y, if each is one symbol
pair_apart : (IsPair : Symbol → Symbol → Type 0) (given : Symbol → List Symbol) (a b : Symbol) → given x ≡ a ∷ [] → given y ≡ b ∷ [] → a ≢ b → IsPair a b → IsPair b a
    → (v w : Symbol) → ArePair pair v w → AreApartBy IsPair (given v) (given w)
pair_apart IsPair given a b ea eb other ab ba v w (inl c) =
    let e = only_one (x, y) (v, w) c in
    apart_singles IsPair (given v) (given w) a b (ap given (sym (ap (λ (p : Symbol × Symbol). p.0) e)) ∙ ea) (ap given (sym (ap (λ (p : Symbol × Symbol). p.1) e)) ∙ eb) other ab
pair_apart IsPair given a b ea eb other ab ba v w (inr c) =
    let e = only_one (x, y) (w, v) c in
    apart_singles IsPair (given v) (given w) b a (ap given (sym (ap (λ (p : Symbol × Symbol). p.1) e)) ∙ eb) (ap given (sym (ap (λ (p : Symbol × Symbol). p.0) e)) ∙ ea) (λ q. other (sym q)) ba

no_pair : (v w : Symbol) → ArePair [] v w → ⊥
no_pair v w (inl c) = none (v, w) c
no_pair v w (inr c) = none (w, v) c

-- ---- what is provable

module _ (axioms : List Frame) (IsPair : Symbol → Symbol → Type 0) (hypotheses : List Mandatory) where
  abbrev Closed : List Symbol → Type 0
  Closed e = IsInClosure (system axioms) IsPair hypotheses e

  two_entries : (given : Symbol → List Symbol) → Closed (substituted given (X ∷ x ∷ [])) → Closed (substituted given (X ∷ y ∷ []))
      → (h : Mandatory) → Contains (float x ∷ float y ∷ []) h → Closed (substituted given h.expression)
  two_entries given a b h c = elim (one_of_two (float x) (float y) h c) [
    | inl e ↦ subst (λ (g : Mandatory). Closed (substituted given g.expression)) e a
    | inr e ↦ subst (λ (g : Mandatory). Closed (substituted given g.expression)) e b
  ]

  by_two : Contains axioms (two pair) → IsPair x y → IsPair y x → Closed (P ∷ x ∷ y ∷ [])
  by_two among xy yx = by_axiom {frame = two pair} {given = just} among (two_entries just (by_type {c = X} {v = x} refl) (by_type {c = X} {v = y} refl)) (pair_apart IsPair just x y refl refl x_not_y xy yx)

  by_one : Contains axioms one → Closed (P ∷ x ∷ [])
  by_one among = by_axiom {frame = one} {given = just} among
      (λ h c. subst (λ (g : Mandatory). Closed (substituted just g.expression)) (only_one (float x) h c) (by_type {c = X} {v = x} refl))
      (λ v w are. absurd (no_pair v w are))

own_pair : (frame : Frame) → frame.pairs ≡ pair → (MayBePaired frame x y) × (MayBePaired frame y x)
own_pair frame e = (
  (λ p q. subst (λ (ps : List (Symbol × Symbol)). ArePair ps x y) (sym e) (inl (here (x, y) []))),
  (λ p q. subst (λ (ps : List (Symbol × Symbol)). ArePair ps y x) (sym e) (inr (here (x, y) []))),
)

with_pair : IsProvable (system (two pair ∷ [])) (two pair)
with_pair = let own = own_pair (two pair) refl in by_two (two pair ∷ []) (MayBePaired (two pair)) (two pair).hypotheses (here (two pair) []) own.0 own.1

turned_proved : IsProvable (system (two pair ∷ [])) turned
turned_proved =
    let own = own_pair turned refl in
    by_axiom {frame = two pair} {given = exchanged} (here (two pair) [])
    (two_entries (two pair ∷ []) (MayBePaired turned) turned.hypotheses exchanged (by_type {c = X} {v = y} refl) (by_type {c = X} {v = x} refl))
    (pair_apart (MayBePaired turned) exchanged y x refl refl (λ e. x_not_y (sym e)) own.1 own.0)

with_dummy : IsProvable (system (one ∷ from_one ∷ [])) goal
with_dummy = by_axiom {frame = from_one} {given = just} (there one (from_one ∷ []) from_one (here from_one []))
    (λ h c. elim (one_of_two (float x) (record { floating = false; expression = P ∷ x ∷ [] }) h c) [
      | inl e ↦ subst (λ (g : Mandatory). Closed (one ∷ from_one ∷ []) (MayBePaired goal) [] (substituted just g.expression)) e (by_type {c = X} {v = x} refl)
      | inr e ↦ subst (λ (g : Mandatory). Closed (one ∷ from_one ∷ []) (MayBePaired goal) [] (substituted just g.expression)) e
          (by_one (one ∷ from_one ∷ []) (MayBePaired goal) [] (here one (from_one ∷ [])))
    ])
    (λ v w are. absurd (no_pair v w are))

x_not_there : Contains (symbols_of goal) x → ⊥
x_not_there c = let q : ◌≡◌ {A = ℕ} 81 120 = ap byte (only_one Q x c) in omega (arith, q)

abbrev InGoal : List Symbol → Type 0
InGoal e = Closed (two pair ∷ from_two ∷ []) (MayBePaired goal) [] e

with_two_dummies : IsProvable (system (two pair ∷ from_two ∷ [])) goal
with_two_dummies = by_axiom {frame = from_two} {given = just} (there (two pair) (from_two ∷ []) from_two (here from_two []))
    (λ h c. elim (first_or_later (float x) (float y ∷ record { floating = false; expression = P ∷ x ∷ y ∷ [] } ∷ []) h c) [
      | inl e ↦ subst (λ (g : Mandatory). InGoal (substituted just g.expression)) e (by_type {c = X} {v = x} refl)
      | inr k ↦ elim (one_of_two (float y) (record { floating = false; expression = P ∷ x ∷ y ∷ [] }) h k) [
        | inl e ↦ subst (λ (g : Mandatory). InGoal (substituted just g.expression)) e (by_type {c = X} {v = y} refl)
        | inr e ↦ subst (λ (g : Mandatory). InGoal (substituted just g.expression)) e
            (by_two (two pair ∷ from_two ∷ []) (MayBePaired goal) [] (here (two pair) (from_two ∷ [])) (λ p q. absurd (x_not_there p)) (λ p q. absurd (x_not_there q)))
      ]
    ])
    (λ v w are. absurd (no_pair v w are))

-- ---- what is not provable

-- a typecode is `X`, and what has it is a variable
typed_by : (b : Bool) (c : Symbol) → cond b (Some X) None ≡ Some c → (b ≡ true) × (byte c ≡ 88)
typed_by true c t = (refl, ap byte (sym (same_Some X c t)))
typed_by false c t = absurd (cc)

-- what an axiom begins with
begins : (given : Symbol → List Symbol) (known frame : Frame) → known ≡ frame → first (substituted given known.expression) ≡ first (substituted given frame.expression)
begins given known frame e = ap (λ (g : Frame). first (substituted given g.expression)) e

abbrev IsOne : List Symbol → Type 0
IsOne rest = (v : Symbol) × (v.variable ≡ true) × (rest ≡ v ∷ [])

-- what has the typecode `X` is one variable, if no axiom begins so
module _ (axioms : List Frame) (IsPair : Symbol → Symbol → Type 0) (hypotheses : List Mandatory)
    (out : (frame : Frame) → Contains axioms frame → (given : Symbol → List Symbol) → first (substituted given frame.expression) ≡ 88 → ⊥)
    (known : (h : Mandatory) → Contains hypotheses h → (rest : List Symbol) → h.expression ≡ X ∷ rest → IsOne rest) where
  typed_as : (e rest : List Symbol) → Closed axioms IsPair hypotheses e → e ≡ X ∷ rest → IsOne rest
  typed_as e rest (by_type {c = c} {v = v} t) is = (v, (typed_by v.variable c t).0, sym (cc))
  typed_as e rest (by_hypothesis {h = h} has) is = known h has rest is
  typed_as e rest (by_axiom {frame = frame} {given = given} among entries apart) is = absurd (out frame among given (ap first is))

float_is_one : (h : Mandatory) → Contains (float x ∷ float y ∷ []) h → (rest : List Symbol) → h.expression ≡ X ∷ rest → IsOne rest
float_is_one h c rest is = elim (one_of_two (float x) (float y) h c) [
  | inl e ↦ (let p = ap (λ (g : Mandatory). g.expression) e ∙ is in (x, refl, sym (cc)))
  | inr e ↦ (let p = ap (λ (g : Mandatory). g.expression) e ∙ is in (y, refl, sym (cc)))
]

-- the same without the pair
two_out : (frame : Frame) → Contains (two pair ∷ []) frame → (given : Symbol → List Symbol) → first (substituted given frame.expression) ≡ 88 → ⊥
two_out frame c given e = let q : ◌≡◌ {A = ℕ} 80 88 = begins given (two pair) frame (only_one (two pair) frame c) ∙ e in omega (arith, q)

two_singles : (v w : Symbol) (xs ys : List Symbol) → xs ≡ v ∷ [] → ys ≡ w ∷ [] → P ∷ (xs ++ (ys ++ [])) ≡ P ∷ x ∷ y ∷ [] → (xs ≡ x ∷ []) × (ys ≡ y ∷ [])
two_singles v w xs ys a b e =
    let q : P ∷ v ∷ w ∷ [] ≡ P ∷ x ∷ y ∷ [] = (λ i. P ∷ (sym a i ++ (sym b i ++ []))) ∙ e in
    let left : v ≡ x = cc in
    let right : w ≡ y = cc in
    (a ∙ ap (λ (z : Symbol). z ∷ []) left, b ∙ ap (λ (z : Symbol). z ∷ []) right)

abbrev InLoose : List Symbol → Type 0
InLoose e = Closed (two pair ∷ []) (MayBePaired (two [])) (float x ∷ float y ∷ []) e

without_pair : (e : List Symbol) → InLoose e → e ≡ P ∷ x ∷ y ∷ [] → ⊥
without_pair e (by_type {c = c} {v = v} t) is = absurd (cc)
without_pair e (by_hypothesis {h = h} has) is = elim (one_of_two (float x) (float y) h has) [
  | inl q ↦ (let p = ap (λ (g : Mandatory). first g.expression) q ∙ ap first is in let r : ◌≡◌ {A = ℕ} 88 80 = p in omega (arith, r))
  | inr q ↦ (let p = ap (λ (g : Mandatory). first g.expression) q ∙ ap first is in let r : ◌≡◌ {A = ℕ} 88 80 = p in omega (arith, r))
]
without_pair e (by_axiom {frame = frame} {given = given} among entries apart) is =
    let q = only_one (two pair) frame among in
    let hx = subst (λ (g : Frame). Contains g.hypotheses (float x)) q (here (float x) (float y ∷ [])) in
    let hy = subst (λ (g : Frame). Contains g.hypotheses (float y)) q (there (float x) (float y ∷ []) (float y) (here (float y) [])) in
    let a = typed_as (two pair ∷ []) (MayBePaired (two [])) (float x ∷ float y ∷ []) two_out float_is_one (substituted given (X ∷ x ∷ [])) (given x ++ []) (entries (float x) hx) refl in
    let b = typed_as (two pair ∷ []) (MayBePaired (two [])) (float x ∷ float y ∷ []) two_out float_is_one (substituted given (X ∷ y ∷ [])) (given y ++ []) (entries (float y) hy) refl in
    let p : P ∷ (given x ++ (given y ++ [])) ≡ P ∷ x ∷ y ∷ [] = ap (λ (g : Frame). substituted given g.expression) q ∙ is in
    let s = two_singles a.0 b.0 (given x) (given y) (sym (append-nil (given x)) ∙ a.2) (sym (append-nil (given y)) ∙ b.2) p in
    let r = apart x y (subst (λ (g : Frame). ArePair g.pairs x y) q (inl (here (x, y) []))) x y
    (subst (λ (l : List Symbol). Contains l x) (sym s.0) (here x []), refl) (subst (λ (l : List Symbol). Contains l y) (sym s.1) (here y []), refl) in
    no_pair x y (r.1 (there P (x ∷ y ∷ X ∷ x ∷ X ∷ y ∷ []) x (here x (y ∷ X ∷ x ∷ X ∷ y ∷ []))) (there P (x ∷ y ∷ X ∷ x ∷ X ∷ y ∷ []) y (there x (y ∷ X ∷ x ∷ X ∷ y ∷ []) y (here y (X ∷ x ∷ X ∷ y ∷ [])))))

-- without a type no axiom can be used, since each has a variable
untyped_X : (e : List Symbol) → IsInClosure (untyped (one ∷ from_one ∷ [])) (MayBePaired goal) [] e → first e ≡ 88 → ⊥
untyped_X e (by_type t) is = absurd (cc)
untyped_X e (by_hypothesis {h = h} has) is = none h has
untyped_X e (by_axiom {frame = frame} {given = given} among entries apart) is = elim (one_of_two one from_one frame among) [
  | inl q ↦ (let r : ◌≡◌ {A = ℕ} 80 88 = begins given one frame q ∙ is in omega (arith, r))
  | inr q ↦ (let r : ◌≡◌ {A = ℕ} 81 88 = begins given from_one frame q ∙ is in omega (arith, r))
]

untyped_all : (e : List Symbol) → IsInClosure (untyped (one ∷ from_one ∷ [])) (MayBePaired goal) [] e → ⊥
untyped_all e (by_type t) = absurd (cc)
untyped_all e (by_hypothesis {h = h} has) = none h has
untyped_all e (by_axiom {frame = frame} {given = given} among entries apart) = untyped_X (substituted given (X ∷ x ∷ [])) (entries (float x) (elim (one_of_two one from_one frame among) [
  | inl q ↦ subst (λ (g : Frame). Contains g.hypotheses (float x)) q (here (float x) [])
  | inr q ↦ subst (λ (g : Frame). Contains g.hypotheses (float x)) q (here (float x) (record { floating = false; expression = P ∷ x ∷ [] } ∷ []))
])) refl

-- by its own pairs alone a statement without pairs cannot use an axiom with a pair
pairs_out : (frame : Frame) → Contains (two pair ∷ from_two ∷ []) frame → (given : Symbol → List Symbol) → first (substituted given frame.expression) ≡ 88 → ⊥
pairs_out frame c given e = elim (one_of_two (two pair) from_two frame c) [
  | inl q ↦ (let r : ◌≡◌ {A = ℕ} 80 88 = begins given (two pair) frame q ∙ e in omega (arith, r))
  | inr q ↦ (let r : ◌≡◌ {A = ℕ} 81 88 = begins given from_two frame q ∙ e in omega (arith, r))
]

abbrev InOwn : List Symbol → Type 0
InOwn e = Closed (two pair ∷ from_two ∷ []) (ArePair []) [] e

own_P : (e : List Symbol) → InOwn e → first e ≡ 80 → ⊥
own_P e (by_type {c = c} {v = v} t) is = let q = (typed_by v.variable c t).1 in omega (arith, q, is)
own_P e (by_hypothesis {h = h} has) is = none h has
own_P e (by_axiom {frame = frame} {given = given} among entries apart) is = elim (one_of_two (two pair) from_two frame among) [
  | inl q ↦ (let hx = subst (λ (g : Frame). Contains g.hypotheses (float x)) q (here (float x) (float y ∷ [])) in
      let hy = subst (λ (g : Frame). Contains g.hypotheses (float y)) q (there (float x) (float y ∷ []) (float y) (here (float y) [])) in
      let a = typed_as (two pair ∷ from_two ∷ []) (ArePair []) [] pairs_out (λ h c. absurd (none h c)) (substituted given (X ∷ x ∷ [])) (given x ++ []) (entries (float x) hx) refl in
      let b = typed_as (two pair ∷ from_two ∷ []) (ArePair []) [] pairs_out (λ h c. absurd (none h c)) (substituted given (X ∷ y ∷ [])) (given y ++ []) (entries (float y) hy) refl in
      let in_x = subst (λ (l : List Symbol). Contains l a.0) (sym (sym (append-nil (given x)) ∙ a.2)) (here a.0 []) in
      let in_y = subst (λ (l : List Symbol). Contains l b.0) (sym (sym (append-nil (given y)) ∙ b.2)) (here b.0 []) in
      no_pair a.0 b.0 (apart x y (subst (λ (g : Frame). ArePair g.pairs x y) q (inl (here (x, y) []))) a.0 b.0 (in_x, a.1) (in_y, b.1)).1)
  | inr q ↦ (let r : ◌≡◌ {A = ℕ} 81 80 = begins given from_two frame q ∙ is in omega (arith, r))
]

own_Q : (e : List Symbol) → InOwn e → first e ≡ 81 → ⊥
own_Q e (by_type {c = c} {v = v} t) is = let q = (typed_by v.variable c t).1 in omega (arith, q, is)
own_Q e (by_hypothesis {h = h} has) is = none h has
own_Q e (by_axiom {frame = frame} {given = given} among entries apart) is = elim (one_of_two (two pair) from_two frame among) [
  | inl q ↦ (let r : ◌≡◌ {A = ℕ} 80 81 = begins given (two pair) frame q ∙ is in omega (arith, r))
  | inr q ↦ (let last : Mandatory = record { floating = false; expression = P ∷ x ∷ y ∷ [] } in
      let has = there (float x) (float y ∷ last ∷ []) last (there (float y) (last ∷ []) last (here last [])) in
      own_P (substituted given (P ∷ x ∷ y ∷ [])) (entries last (subst (λ (g : Frame). Contains g.hypotheses last) q has)) refl)
]

-- with the axiom left out
abbrev InRest : List Symbol → Type 0
InRest e = Closed (from_one ∷ []) (MayBePaired goal) [] e

rest_P : (e : List Symbol) → InRest e → first e ≡ 80 → ⊥
rest_P e (by_type {c = c} {v = v} t) is = let q = (typed_by v.variable c t).1 in omega (arith, q, is)
rest_P e (by_hypothesis {h = h} has) is = none h has
rest_P e (by_axiom {frame = frame} {given = given} among entries apart) is =
    let r : ◌≡◌ {A = ℕ} 81 80 = begins given from_one frame (only_one from_one frame among) ∙ is in omega (arith, r)

rest_Q : (e : List Symbol) → InRest e → first e ≡ 81 → ⊥
rest_Q e (by_type {c = c} {v = v} t) is = let q = (typed_by v.variable c t).1 in omega (arith, q, is)
rest_Q e (by_hypothesis {h = h} has) is = none h has
rest_Q e (by_axiom {frame = frame} {given = given} among entries apart) is =
    let last : Mandatory = record { floating = false; expression = P ∷ x ∷ [] } in
    rest_P (substituted given (P ∷ x ∷ []))
    (entries last (subst (λ (g : Frame). Contains g.hypotheses last) (only_one from_one frame among) (there (float x) (last ∷ []) last (here last [])))) refl

-- ---- the examples

pub pairs_are_needed : PairsAreNeeded
pairs_are_needed = (with_pair, λ p. without_pair (P ∷ x ∷ y ∷ []) p refl)

pub dummies_are_needed : DummiesAreNeeded
dummies_are_needed = (with_dummy, λ p. untyped_all (Q ∷ []) p)

pub dummies_are_paired : DummiesArePaired
dummies_are_paired = (with_two_dummies, λ p. own_Q (Q ∷ []) p refl)

pub axioms_are_needed : AxiomsAreNeeded
axioms_are_needed p = rest_Q (Q ∷ []) p refl

pub replaced_at_once : VariablesAreReplacedAtOnce
replaced_at_once = (turned_proved, refl)

-- ---- a database

pub variables_are_typed : VariablesAreTyped
variables_are_typed = (refl, refl, refl, refl)

abbrev wp : Mandatory
wp = small.typing (codes "wp")

abbrev InSmall : List Symbol → Type 0
InSmall e = IsInClosure small_system (MayBePaired implied) (wp ∷ []) e

abbrev p_for_each : Symbol → List Symbol
p_for_each v = small.p ∷ []

-- without an axiom no expression of six symbols is in the closure
too_long : (e : List Symbol) → IsInClosure (system_of small.base []) (MayBePaired implied) (wp ∷ []) e → length e ≡ 6 → ⊥
too_long e (by_type t) six = let two : ◌≡◌ {A = ℕ} 2 6 = six in omega (arith, two)
too_long e (by_hypothesis {h = h} has) six =
    let two : ◌≡◌ {A = ℕ} 2 6 = ap (λ (g : Mandatory). length g.expression) (only_one wp h has) ∙ six in
    omega (arith, two)
too_long e (by_axiom {frame = frame} among entries apart) six = none frame among

pub axiom_is_used : AxiomIsUsed
axiom_is_used = (used, λ provable. too_long implied.expression provable refl)
  where
    entries : (h : Mandatory) → Contains (wp ∷ small.typing (codes "wq") ∷ []) h → InSmall (substituted p_for_each h.expression)
    entries h c = elim (one_of_two wp (small.typing (codes "wq")) h c) [
      | inl e ↦ subst (λ (g : Mandatory). InSmall (substituted p_for_each g.expression)) e (by_hypothesis {h = wp} (here wp []))
      | inr e ↦ subst (λ (g : Mandatory). InSmall (substituted p_for_each g.expression)) e (by_hypothesis {h = wp} (here wp []))
    ]

    used : IsProvable small_system implied
    used = by_axiom {frame = frame_at small.base 5} {given = p_for_each} (here (frame_at small.base 5) []) entries (λ v w are. absurd (no_pair v w are))
