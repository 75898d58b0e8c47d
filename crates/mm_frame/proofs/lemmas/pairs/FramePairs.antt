-- The pairs of a frame: those of its variables, in order, that an active `$d` has.
use Rattle.std.{specs.Prelude.{Contains}, proofs.lemmas.{Grind.{common_steps}, Bool.{or_cases, and_from, false_from_ne_true, and_parts}, List.{map-append, Elements.{All-contains, filter-append}}}}
use Rattle.std.proofs.lemmas.{Map.Views.{any-filter_same}, Option.{same_Some, get_or_from_slice_get}}
use Rattle.std.proofs.Common.{◌≡◌, ℕ, suc, ◌+◌, ◌<◌, ◌≤◌, Bool, true, false, cond, ◌&&◌, Some, None, List, [], ◌∷◌, ◌++◌, length, map, filter, flat_map, All, option_to_list, take, drop, slice_get}
use Rattle.std.proofs.Common.{get_or, refl, sym, ◌∙◌, ap, subst, arith, inl, inr, ◌⊎◌}
use Rattle.mm_machine.specs.Language.{Frame.{Symbol, Mandatory, ArePair, AreSamePairs}, Typing.{IsTyped}, NumberedSymbols.{symbol_of, symbols_of, IsNumbered, ArePairsRead}}
use Rattle.mm_machine.specs.declared.symbol.NumberedSymbol.{NumberedSymbol}
use Rattle.mm_frame.specs.Language.{Scope.{active, active_numbers}, Sound.{IsSound, AreSound}}
use Rattle.mm_frame.specs.Language.Framing.{symbol, expression, mandatory_variables, is_mandatory, hypothesis, mandatory_hypotheses, pairs_of, active_pairs, is_mandatory_pair, frame}
use Rattle.mm_frame.specs.{Language.{Framing.{mandatory_numbers}, Answering.{are_paired, typed_variables, pairs_in_order}}, Code.LastItems.{is_active_at, is_essential_item}}
use Rattle.mm_frame.specs.Code.{KeptSymbols.{AreExpressions, AreNumbered}, PairOrder.{is_among, float_variable, float_variables}, KeptLists.{item_list}}
use Rattle.mm_frame.proofs.lemmas.pairs.ActivePairLemmas.{all_next, flat_of_map, row_next, expression_at_number, pairs_with, in_order, is_pair, SameNames, same_names, found_pair, to_paired, pair_here}
use Rattle.mm_frame.proofs.lemmas.{pairs.ActivePairLemmas.{pair_turned, apart_active}, lists.Members.{In, in_contains, contains_in, from_map, in_filter, from_filter, in_flat, from_flat}}
use Rattle.mm_frame.proofs.lemmas.{lists.Rising.{in_among, among_in}, scope.{Facts.{float_two}, SoundItems.{split_at, filter_same}}}
use Rattle.mm_frame.proofs.lemmas.frames.Frames.{in_at, float_of, float_name, float_labelled, from_pairs, pairs_typed_at, assertion_expression}
use Rattle.mm_frame.proofs.lemmas.frames.{HypothesisNumbers.{hypotheses_by_numbers, to_active_number, from_active_number}, MandatoryLemmas.{not_both}}
use Rattle.mm_statement.specs.Language.Item.{Said, passed, is_kind, Essential, Floating, is_assertion, has, variable_of, item_at}

-- the variables of the mandatory `$f`
abbrev pub variables_if : Bool → List Symbol → List Symbol
variables_if floating symbols = cond floating (drop 1 symbols) []

second_read : (all : List (List ℕ)) (kept : List NumberedSymbol) → symbols_of all (option_to_list (slice_get kept 1)) ≡ option_to_list (slice_get (symbols_of all kept) 1)
second_read all (x ∷ y ∷ kept) = refl
second_read all _ = refl

pub variables_at : (all : List (List ℕ)) (before : List Said) (item : Said) (expressions : List (List NumberedSymbol)) (n : ℕ) → AreSound before → AreExpressions all before expressions → In n (mandatory_numbers before item)
    → symbols_of all (float_variable (active_numbers is_essential_item before) expressions n) ≡ variables_if (is_kind Floating (item_at before n).kind) (expression before (item_at before n))
variables_at all before item expressions n h a m =
    let r = from_active_number (is_mandatory (mandatory_variables before item)) before n m in
    let whole = λ (x : Said). variables_if (is_kind Floating x.kind) (expression before x) in
    by_kind r.0 r.1 r.2 (or_cases (is_kind Essential (r.0).kind) (is_kind Floating (r.0).kind && has (mandatory_variables before item) (variable_of r.0)) r.3) ∙ ap whole (sym (get_or_from_slice_get before n r.0 passed r.1)) where
      essentials : List ℕ
      essentials = active_numbers is_essential_item before

      by_kind : (x : Said) → slice_get before n ≡ Some x → is_active_at before n ≡ true → (is_kind Essential x.kind ≡ true) ⊎ ((is_kind Floating x.kind && has (mandatory_variables before item) (variable_of x)) ≡ true)
          → symbols_of all (float_variable essentials expressions n) ≡ variables_if (is_kind Floating x.kind) (expression before x)
      by_kind x there stayed (inl e) =
          ap (λ b. symbols_of all (cond b [] (option_to_list (slice_get (item_list expressions n) 1)))) (in_among essentials n (to_active_number is_essential_item before n x there stayed e))
          ∙ sym (ap (λ b. variables_if b (expression before x)) (false_from_ne_true (is_kind Floating x.kind) (λ f. not_both x.kind f e)))
      by_kind x there stayed (inr b) =
          let f = (and_parts (is_kind Floating x.kind) (has (mandatory_variables before item) (variable_of x)) b).0 in
          let labelled = float_labelled x.kind f in
          let two = float_two (take n before) x (h (take n before) x (drop (suc n) before) (split_at before n x there)) f in
          let symbols : expression before x ≡ symbol before two.0 ∷ symbol before two.1 ∷ [] = ap (map (symbol before)) two.2 in
          ap (λ b. symbols_of all (cond b [] (option_to_list (slice_get (item_list expressions n) 1))))
          (false_from_ne_true (is_among essentials n)
          (λ t. let r = from_active_number is_essential_item before n (among_in essentials n t) in
          not_both x.kind f (ap (λ (y : Said). is_kind Essential y.kind) (same_Some x r.0 (sym there ∙ r.1)) ∙ r.3)))
          ∙ second_read all (item_list expressions n)
          ∙ ap (λ w. option_to_list (slice_get w 1)) ((a n x there labelled ∙ sym (expression_at_number before h n x there stayed labelled)) ∙ symbols)
          ∙ sym (ap (λ b. variables_if b (expression before x)) f ∙ ap (drop 1) symbols)

-- the variables of the mandatory `$f`, by the numbers of these
pub typed_by_numbers : (before : List Said) (item : Said) → typed_variables (mandatory_hypotheses before item)
    ≡ flat_map (λ n. variables_if (is_kind Floating (item_at before n).kind) (expression before (item_at before n))) (mandatory_numbers before item)
typed_by_numbers before item = ap typed_variables (hypotheses_by_numbers before item)
    ∙ flat_of_map (λ (x : Mandatory). variables_if x.floating x.expression) (λ n. hypothesis before (item_at before n)) (mandatory_numbers before item)

pub read_each : {X : Type 0} (all : List (List ℕ)) (f : X → List NumberedSymbol) (xs : List X) → symbols_of all (flat_map f xs) ≡ flat_map (λ x. symbols_of all (f x)) xs
read_each all f [] = refl
read_each all f (x ∷ xs) = map-append (symbol_of all) (f x) (flat_map f xs) ∙ ap (λ w. symbols_of all (f x) ++ w) (read_each all f xs)

-- each has the number of a name
second_kept : (b : Bool) (kept : List NumberedSymbol) (v : NumberedSymbol) → In v (cond b [] (option_to_list (slice_get kept 1))) → In v kept
second_kept false (x ∷ y ∷ kept) v (inl e) = inr (inl e)
second_kept false (x ∷ y ∷ kept) v (inr z) = absurd z
second_kept _ _ v h = absurd h

pub variables_numbered : (all : List (List ℕ)) (essentials numbers : List ℕ) (expressions : List (List NumberedSymbol)) → AreNumbered all expressions → All (IsNumbered all) (float_variables essentials expressions numbers)
variables_numbered all essentials numbers expressions a k d l =
    let v = get_or (float_variables essentials expressions numbers) k d in
    let r = from_flat (float_variable essentials expressions) v numbers (in_at (float_variables essentials expressions numbers) k d l) in
    All-contains (IsNumbered all) (item_list expressions r.0) v (a r.0) (in_contains v (item_list expressions r.0) (second_kept (is_among essentials r.0) (item_list expressions r.0) v r.2))

-- what a variable of a mandatory `$f` is
record TypedVariable (before : List Said) (item : Said) (v : Symbol) : Type 0 where
  variable : v.variable ≡ true
  mandatory : has (mandatory_variables before item) v.name ≡ true

floating_in : (b : Bool) (v : Symbol) (symbols : List Symbol) → In v (variables_if b symbols) → (b ≡ true) × In v (drop 1 symbols)
floating_in true v symbols m = (refl, m)
floating_in false v symbols m = absurd m

typed_variable : (before : List Said) (item : Said) (v : Symbol) → AreSound before → In v (typed_variables (mandatory_hypotheses before item)) → TypedVariable before item v
typed_variable before item v h m =
    let r = from_flat (λ (x : Mandatory). variables_if x.floating x.expression) v (mandatory_hypotheses before item) m in
    let s = from_map (hypothesis before) r.0 (filter (is_mandatory (mandatory_variables before item)) (active before)) r.1 in
    let t = from_filter (is_mandatory (mandatory_variables before item)) s.0 (active before) s.1 in
    let u = floating_in (r.0).floating v (r.0).expression r.2 in
    of_float s.0 t.0 t.1 (ap (λ (x : Mandatory). x.floating) s.2 ∙ u.0) (subst (λ (x : Mandatory). In v (drop 1 x.expression)) (sym s.2) u.1) where
      of_float : (f : Said) → In f (active before) → is_mandatory (mandatory_variables before item) f ≡ true → is_kind Floating f.kind ≡ true → In v (drop 1 (expression before f)) → TypedVariable before item v
      of_float f a t e k = grind (arith, common_steps, float_name before f (float_of before f h a e)) steps 200000

-- mandatory variables are a pair of the frame exactly when they are an active pair
paired_same : (mandatory : List (List ℕ)) (pairs : List (Symbol × Symbol)) (named : Symbol × Symbol) → has mandatory named.0.name ≡ true
    → has mandatory named.1.name ≡ true → are_paired pairs named ≡ are_paired (filter (is_mandatory_pair mandatory) pairs) named
paired_same mandatory pairs named a b = sym (any-filter_same (is_pair named) (is_mandatory_pair mandatory) true (λ pair t. kept pair (same_names named pair t)) pairs)
  where
    kept : (pair : Symbol × Symbol) → SameNames named pair → is_mandatory_pair mandatory pair ≡ true
    kept pair (inl e) = and_from (has mandatory pair.0.name) (has mandatory pair.1.name) (ap (has mandatory) e.0 ∙ a) (ap (has mandatory) e.1 ∙ b)
    kept pair (inr e) = and_from (has mandatory pair.0.name) (has mandatory pair.1.name) (ap (has mandatory) e.0 ∙ b) (ap (has mandatory) e.1 ∙ a)

pub active_in_order : (before : List Said) (item : Said) → AreSound before → filter (are_paired (active_pairs before)) (pairs_of (typed_variables (mandatory_hypotheses before item))) ≡ pairs_in_order (frame before item)
active_in_order before item h = filter_same (are_paired (active_pairs before)) (are_paired (frame before item).pairs) (pairs_of (typed_variables (mandatory_hypotheses before item))) (λ pair m.
    let p = from_pairs pair (typed_variables (mandatory_hypotheses before item)) m in
    paired_same (mandatory_variables before item) (active_pairs before) pair (typed_variable before item pair.0 h p.0).mandatory (typed_variable before item pair.1 h p.1).mandatory)

-- one more hypothesis
pub no_second : (symbols : List NumberedSymbol) → length symbols ≤ 1 → slice_get symbols 1 ≡ None
no_second (x ∷ y ∷ symbols) l = absurd (omega arith)
no_second _ l = refl

pub nothing : (b : Bool) → cond {A = List NumberedSymbol} b [] [] ≡ []
nothing true = refl
nothing false = refl

-- one more pair of a variable, and none
pub with_more : (all : List (List ℕ)) (test : Symbol × Symbol → Bool) (s : Symbol) (later : List NumberedSymbol) (n : ℕ) (d : NumberedSymbol) (said : List (Symbol × Symbol)) (kept : List (NumberedSymbol × NumberedSymbol)) → n < length later
    → ArePairsRead all ((said ++ filter test (pairs_with s (symbols_of all (take n later)))) ++ filter test ((s, symbol_of all (get_or later n d)) ∷ []))
    kept → ArePairsRead all (said ++ filter test (pairs_with s (symbols_of all (take (n + 1) later)))) kept
with_more all test s later n d said kept l r =
    let one : List (Symbol × Symbol) = (s, symbol_of all (get_or later n d)) ∷ [] in
    grind (
      arith,
      common_steps,
      pairs_with s (symbols_of all (take n later)),
      filter-append test (pairs_with s (symbols_of all (take n later))) one,
      let z : n + 1 ≡ suc n = omega arith in
          ap (λ k. pairs_with s (map (symbol_of all) (take k later))) z ∙ row_next (symbol_of all) s later n d l,
    ) steps 200000

pub no_pairs : (test : Symbol × Symbol → Bool) (s : Symbol) (others : List Symbol) → ((y : Symbol) → test (s, y) ≡ false)
    → filter test (pairs_with s others) ≡ []
no_pairs test s [] h = refl
no_pairs test s (y ∷ others) h = ap (λ b. cond b ((s, y) ∷ filter test (pairs_with s others)) (filter test (pairs_with s others))) (h y) ∙ no_pairs test s others h

-- one more variable
pub among_more : (all : List (List ℕ)) (test : Symbol × Symbol → Bool) (variables : List NumberedSymbol) (n : ℕ) (d : NumberedSymbol)
    (said whole : List (Symbol × Symbol)) → n < length variables → said ++ filter test (pairs_of (symbols_of all (drop n variables))) ≡ whole
    → (said ++ filter test (pairs_with (symbol_of all (get_or variables n d)) (symbols_of all (drop (n + 1) variables)))) ++ filter test (pairs_of (symbols_of all (drop (n + 1) variables))) ≡ whole
among_more all test variables n d said whole l so_far = grind (arith, common_steps, all_next, pairs_with, get_or, filter-append, pairs_with) steps 500000

-- two variables with one name are the same
symbol_same : (a b : Symbol) → a.name ≡ b.name → a.variable ≡ true → b.variable ≡ true → a ≡ b
symbol_same a b e s t = let f = s ∙ sym t in λ i. record { name = e i; variable = f i }

-- the pairs of a list are those of another one if each is in its own order
pub each_pair : (ps qs : List (Symbol × Symbol)) → ((x y : Symbol) → Contains ps (x, y) → ArePair qs x y) → (x y : Symbol) → ArePair ps x y → ArePair qs x y
each_pair ps qs f x y (inl c) = f x y c
each_pair ps qs f x y (inr c) = elim (f y x c) [ inl a ↦ inr a | inr b ↦ inl b ]

pub same_pairs : (before : List Said) (item : Said) → AreSound before → IsSound before item → is_assertion item.kind ≡ true → AreSamePairs (pairs_in_order (frame before item)) (frame before item).pairs
same_pairs before item h s a x y = (each_pair in_frame_order of_frame from x y, each_pair of_frame in_frame_order to x y)
  where
    of_frame : List (Symbol × Symbol)
    of_frame = (frame before item).pairs

    in_frame_order : List (Symbol × Symbol)
    in_frame_order = pairs_in_order (frame before item)

    typed : List Symbol
    typed = typed_variables (mandatory_hypotheses before item)

    in_typed : (v : Symbol) → IsTyped (mandatory_hypotheses before item) v → In v typed
    in_typed v t = in_flat (λ (x : Mandatory). variables_if x.floating x.expression) (record { floating = true; expression = t.0 ∷ v ∷ [] }) v
        (mandatory_hypotheses before item) (contains_in (record { floating = true; expression = t.0 ∷ v ∷ [] }) (mandatory_hypotheses before item) t.2)
        (inl refl)

    from : (x y : Symbol) → Contains in_frame_order (x, y) → ArePair of_frame x y
    from x y c =
        let r = from_filter (are_paired of_frame) (x, y) (pairs_of typed) (contains_in (x, y) in_frame_order c) in
        let p = from_pairs (x, y) typed r.0 in
        let vx = (typed_variable before item x h p.0).variable in
        let vy = (typed_variable before item y h p.1).variable in
        let f = found_pair (x, y) of_frame r.1 in
        let t = (pairs_typed_at before item h s (assertion_expression item.kind a) f.0 f.1) in
        elim f.2 [
          | inl e ↦ inl (in_contains (x, y) of_frame
              (subst (λ w. In w of_frame) (λ i. ((symbol_same (f.0).0 x e.0 t.0 vx) i, (symbol_same (f.0).1 y e.1 t.1 vy) i)) f.1))
          | inr e ↦ inr (in_contains (y, x) of_frame
              (subst (λ w. In w of_frame) (λ i. ((symbol_same (f.0).0 y e.0 t.0 vy) i, (symbol_same (f.0).1 x e.1 t.1 vx) i)) f.1))
        ]

    to : (x y : Symbol) → Contains of_frame (x, y) → ArePair in_frame_order x y
    to x y c =
        let m = contains_in (x, y) of_frame c in
        let t = (pairs_typed_at before item h s (assertion_expression item.kind a) (x, y) m) in
        elim (in_order x y typed (λ e. (apart_active before h (x, y) (from_filter (is_mandatory_pair (mandatory_variables before item)) (x, y) (active_pairs before) m).0) (ap (λ (w : Symbol). w.name) e)) (in_typed x t.2) (in_typed y t.3)) [
          | inl b ↦ inl (in_contains (x, y) in_frame_order (in_filter (are_paired of_frame) (x, y) (pairs_of typed) b (to_paired (x, y) (x, y) of_frame m (pair_here x y))))
          | inr b ↦ inr (in_contains (y, x) in_frame_order (in_filter (are_paired of_frame) (y, x) (pairs_of typed) b (to_paired (y, x) (x, y) of_frame m (pair_turned x y))))
        ]
