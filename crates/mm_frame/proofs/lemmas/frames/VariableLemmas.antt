-- The variables of the active `$e`: after one more item, and what numbers they give.
use Rattle.std.proofs.Common.{◌≡◌, ℕ, zero, suc, ◌+◌, ◌<◌, ◌≤◌, Bool, true, false, cond, Some, List, [], ◌∷◌, ◌++◌, length, flat_map, take, drop, slice_get, Contains, get_or, refl, sym, ◌∙◌, ap}
use Rattle.std.proofs.{Common.{subst, take-append-drop, append_assoc, length-append, arith, inl, inr, ◌⊎◌}, lemmas.{Bool.{false≢true}, List.{take_more}}}
use Rattle.std.proofs.lemmas.{List.Elements.{Contains-append_left, Contains-append_right, Contains-append_cases}, Option.{slice_get_within}}
use native.Mathlib.Decide.{dec_lt}
use Rattle.mm_frame.specs.{declared.{essential.EssentialVariable.{EssentialVariable}, tables.Tables.{Tables}}, Language.{Scope.{active_numbers}, Marks.{Neither, Closes}}}
use Rattle.mm_frame.specs.Code.{LastItems.{is_active_at, is_essential_item}, KeptLists.{list_or_none, item_list}, KeptSymbols.{float_number, float_numbers}}
use Rattle.mm_frame.specs.Code.{KeptVariables.{by_essential, AddsOne, AddsAll, IsKeptVariable, AreVariablesOf, IsKeptBy, known_float}, PairOrder.{is_among}}
use Rattle.mm_frame.proofs.lemmas.frames.{Frames.{essential_neither}, HypothesisNumbers.{to_active_number, from_active_number, active_numbers_more}}
use Rattle.mm_frame.proofs.lemmas.{lists.{Members.{In, in_contains, contains_in, in_left, in_flat, from_flat}, Rising.{in_among}}, scope.BlockLemmas.{get_front, get_cases}}
use Rattle.mm_frame.proofs.lemmas.{scope.EndLemmas.{active_at_front}, names.NamedLemmas.{get_before}, pairs.PairAnswerLemmas.{active_below}}
use Rattle.mm_machine.specs.declared.symbol.NumberedSymbol.{NumberedSymbol}
use Rattle.mm_statement.specs.Language.Item.{Said}

-- ---- those that are left, and those that are added

-- one more of the last ones
pub one_dropped : (found : List EssentialVariable) (m : ℕ) (v d : EssentialVariable) → m < length found → Contains (drop m found) v → (v ≡ get_or found m d) ⊎ Contains (drop (suc m) found) v
one_dropped [] m v d within c = absurd (omega arith)
one_dropped (x ∷ found) zero v d within c = elim (contains_in v (x ∷ found) c) [ inl e ↦ inl (sym e) | inr h ↦ inr (in_contains v found h) ]
one_dropped (x ∷ found) (suc m) v d within c = one_dropped found m v d (omega arith) c

pub adds_more : (essentials : List ℕ) (number : ℕ) (symbols : List NumberedSymbol) (k : ℕ) (d : NumberedSymbol) (old mid new : List EssentialVariable) → k < length symbols → AddsAll essentials number (take k symbols) old mid
    → AddsOne essentials number (get_or symbols k d) mid new → AddsAll essentials number (take (k + 1) symbols) old new
adds_more essentials number symbols k d old mid new l so_far one = record {
  more = so_far.more ++ one.more;
  whole = one.whole ∙ ap (λ w. w ++ one.more) so_far.whole ∙ append_assoc old so_far.more one.more;
  own = λ v c. elim (Contains-append_cases so_far.more one.more v c) [
    | inl a ↦ (let r = so_far.own v a in (r.0, subst (λ w. Contains w v.symbol) (sym more) (Contains-append_left (take k symbols) (x ∷ []) v.symbol r.1)))
    | inr b ↦ (let e = one.own v b in (
      ap (λ (w : EssentialVariable). w.number) e,
      subst (λ w. Contains w v.symbol) (sym more)
          (Contains-append_right (take k symbols) (x ∷ []) v.symbol (in_contains v.symbol (x ∷ []) (inl (sym (ap (λ (w : EssentialVariable). w.symbol) e))))),
    ))
  ];
  there = λ s c t. elim (Contains-append_cases (take k symbols) (x ∷ []) s (subst (λ w. Contains w s) more c)) [
    | inl a ↦ (let r = so_far.there s a t in (r.0, r.1, subst (λ w. Contains w (by_essential r.0 s)) (sym one.whole) (Contains-append_left mid one.more (by_essential r.0 s) r.2)))
    | inr b ↦ last s t (contains_in s (x ∷ []) b)
  ];
}
  where
    x : NumberedSymbol
    x = get_or symbols k d

    more : take (k + 1) symbols ≡ take k symbols ++ x ∷ []
    more = take_more symbols k d l

    last : (s : NumberedSymbol) → s.variable ≡ true → In s (x ∷ []) → IsKeptBy essentials new s
    last s t (inl e) = subst (IsKeptBy essentials new) e (one.there (ap (λ (w : NumberedSymbol). w.variable) e ∙ t))
    last s t (inr z) = absurd z

-- ---- one more item

-- an earlier `$e` is active as long as a later one
still_active : (before : List Said) (item : Said) (m n : ℕ) → m ≤ n → In m (active_numbers is_essential_item before) → In n (active_numbers is_essential_item (before ++ item ∷ [])) → In m (active_numbers is_essential_item (before ++ item ∷ []))
still_active before item m n l h k = elim (dec_lt n (length before)) [
  | yes w ↦ (
      let first = from_active_number is_essential_item before m h in
      to_active_number is_essential_item (before ++ item ∷ []) m first.0 (get_front before item first.0 m first.1) (active_below before item m n l w first.2 (from_active_number is_essential_item (before ++ item ∷ []) n k).2) first.3
      )
  | no w ↦ (
      let later = from_active_number is_essential_item (before ++ item ∷ []) n k in
      subst (In m) (sym (active_numbers_more is_essential_item before item
      ((λ e. let q : Neither ≡ Closes = sym (essential_neither item.kind (last_is n later.0 w (get_cases before item later.0 n later.1) later.3)) ∙ e in
      cc)))) (in_left m (active_numbers is_essential_item before) _ h)
      )
]
  where
    last_is : (n : ℕ) (x : Said) → (n < length before → ⊥) → (slice_get before n ≡ Some x) ⊎ ((n ≡ length before) × (item ≡ x)) → is_essential_item x ≡ true → is_essential_item item ≡ true
    last_is n x w (inl e) t = absurd (w (slice_get_within before n x e))
    last_is n x w (inr e) t = ap is_essential_item e.1 ∙ t

-- which is one of those before, or the item
earlier_or_last : (before : List Said) (item : Said) (n : ℕ) → In n (active_numbers is_essential_item (before ++ item ∷ [])) → In n (active_numbers is_essential_item before) ⊎ (n ≡ length before)
earlier_or_last before item n k = by_place (get_cases before item r.0 n r.1)
  where
    r : (x : Said) × (slice_get (before ++ item ∷ []) n ≡ Some x) × (is_active_at (before ++ item ∷ []) n ≡ true) × (is_essential_item x ≡ true)
    r = from_active_number is_essential_item (before ++ item ∷ []) n k

    by_place : (slice_get before n ≡ Some r.0) ⊎ ((n ≡ length before) × (item ≡ r.0)) → In n (active_numbers is_essential_item before) ⊎ (n ≡ length before)
    by_place (inl e) = inl (to_active_number is_essential_item before n r.0 e (active_at_front before item n (slice_get_within before n r.0 e) r.2) r.3)
    by_place (inr e) = inr e.0

earlier_within : (before : List Said) (n : ℕ) → In n (active_numbers is_essential_item before) → n < length before
earlier_within before n h = let r = from_active_number is_essential_item before n h in slice_get_within before n r.0 r.1

same_kept : (old : List (List NumberedSymbol)) (symbols : List NumberedSymbol) (n : ℕ) → n < length old → item_list (old ++ symbols ∷ []) n ≡ item_list old n
same_kept old symbols n l = ap list_or_none (get_before old symbols n l)

-- the variables that are left are those of the `$e` that are active yet
record AreLeftOf (essentials : List ℕ) (expressions : List (List NumberedSymbol)) (count : ℕ) (found : List EssentialVariable) : Type 0 where
  within : (v : EssentialVariable) → Contains found v → v.number < length expressions
  from : (v : EssentialVariable) → Contains found v → Contains (item_list expressions v.number) v.symbol
  to : (n : ℕ) (s : NumberedSymbol) → (n < count) → Contains essentials n → Contains (item_list expressions n) s → s.variable ≡ true → IsKeptVariable essentials found n s

left : (before : List Said) (item : Said) (old : List (List NumberedSymbol)) (symbols : List NumberedSymbol) (found : List EssentialVariable) (count : ℕ)
    → length old ≡ length before → AreVariablesOf (active_numbers is_essential_item before) old found
    → ((v : EssentialVariable) → Contains (drop count found) v → (n : ℕ) → Contains (active_numbers is_essential_item (before ++ item ∷ [])) n → n < v.number)
    → AreLeftOf (active_numbers is_essential_item (before ++ item ∷ [])) (old ++ symbols ∷ []) (length before) (take count found)
left before item old symbols found count long are dropped = record {
  within = λ v c. (let w = are.within v (was v c) in let l = length-append old (symbols ∷ []) in omega arith);
  from = λ v c. subst (λ w. Contains w v.symbol) (sym (same_kept old symbols v.number (are.within v (was v c)))) (are.from v (was v c));
  to =
      let active : List ℕ = active_numbers is_essential_item before in
      λ n s l e c t. (
      let first = contains_in n (active_numbers is_essential_item (before ++ item ∷ [])) e in
      let at : In n active = elim (earlier_or_last before item n first) [ inl h ↦ h | inr z ↦ absurd (omega arith) ] in
      let kept = are.to n s (in_contains n active at) (subst (λ w. Contains w s) (same_kept old symbols n (let w = earlier_within before n at in omega arith)) c) t in
      let stays =
      in_contains kept.first (active_numbers is_essential_item (before ++ item ∷ []))
      (still_active before item kept.first n kept.earlier (contains_in kept.first active kept.active) first) in
      record {
        first = kept.first;
        earlier = kept.earlier;
        active = stays;
        there = elim (Contains-append_cases (take count found) (drop count found) (by_essential kept.first s) (subst (λ w. Contains w (by_essential kept.first s)) (sym (take-append-drop count found)) kept.there)) [
          | inl a ↦ a
          | inr b ↦ (let less = dropped (by_essential kept.first s) b kept.first stays in absurd (omega arith))
        ];
      }
      );
}
  where
    was : (v : EssentialVariable) → Contains (take count found) v → Contains found v
    was v c = subst (λ w. Contains w v) (take-append-drop count found) (Contains-append_left (take count found) (drop count found) v c)

pub variables_left : (before : List Said) (item : Said) (old : List (List NumberedSymbol)) (symbols : List NumberedSymbol) (found : List EssentialVariable)
    (count : ℕ) → length old ≡ length before → AreVariablesOf (active_numbers is_essential_item before) old found
    → ((v : EssentialVariable) → Contains (drop count found) v → (n : ℕ) → Contains (active_numbers is_essential_item (before ++ item ∷ [])) n → n < v.number)
    → is_among (active_numbers is_essential_item (before ++ item ∷ [])) (length before) ≡ false → AreVariablesOf (active_numbers is_essential_item (before ++ item ∷ [])) (old ++ symbols ∷ []) (take count found)
variables_left before item old symbols found count long are dropped out =
    let l = left before item old symbols found count long are dropped in
    let behind = active_numbers is_essential_item (before ++ item ∷ []) in
    record {
      within = l.within;
      from = l.from;
      to = λ n s e c t. l.to n s (elim (earlier_or_last before item n (contains_in n behind e)) [
        | inl h ↦ earlier_within before n h
        | inr z ↦ absurd (false≢true (sym out ∙ in_among behind (length before) (subst (λ w. In w behind) z (contains_in n behind e))))
      ]) e c t;
    }

-- an item after which the same `$e` are active adds none
pub variables_stay : (before : List Said) (essentials : List ℕ) (old : List (List NumberedSymbol)) (symbols : List NumberedSymbol) (found : List EssentialVariable) → length old ≡ length before → essentials ≡ active_numbers is_essential_item before
    → AreVariablesOf essentials old found → AreVariablesOf essentials (old ++ symbols ∷ []) found
variables_stay before essentials old symbols found long e are = record {
  within = λ v c. (let w = are.within v c in let l = length-append old (symbols ∷ []) in omega arith);
  from = λ v c. subst (λ w. Contains w v.symbol) (sym (same_kept old symbols v.number (are.within v c))) (are.from v c);
  to = λ n s a c t. are.to n s a (subst (λ w. Contains w s) (same_kept old symbols n (let w = earlier_within before n (subst (In n) e (contains_in n essentials a)) in omega arith)) c) t;
}

pub variables_added : (before : List Said) (item : Said) (old : List (List NumberedSymbol)) (symbols : List NumberedSymbol)
    (found new : List EssentialVariable) (count : ℕ) → length old ≡ length before → AreVariablesOf (active_numbers is_essential_item before) old found
    → ((v : EssentialVariable) → Contains (drop count found) v → (n : ℕ) → Contains (active_numbers is_essential_item (before ++ item ∷ [])) n → n < v.number)
    → is_among (active_numbers is_essential_item (before ++ item ∷ [])) (length before) ≡ true → AddsAll
    (active_numbers is_essential_item (before ++ item ∷ [])) (length before) (item_list (old ++ symbols ∷ []) (length before)) (take count found)
    new
    → AreVariablesOf (active_numbers is_essential_item (before ++ item ∷ [])) (old ++ symbols ∷ []) new
variables_added before item old symbols found new count long are dropped among adds = record {
  within = λ v c. elim (cases v c) [ inl a ↦ l.within v a | inr b ↦ (let e = (adds.own v b).0 in let k = length-append old (symbols ∷ []) in omega arith) ];
  from = λ v c. elim (cases v c) [ inl a ↦ l.from v a | inr b ↦ (let r = adds.own v b in subst (λ w. Contains (item_list (old ++ symbols ∷ []) w) v.symbol) (sym r.0) r.1) ];
  to =
      let last : (n : ℕ) (s : NumberedSymbol) → n ≡ length before → IsKeptBy behind new s → IsKeptVariable behind new n s =
      λ n s z r. record {
        first = r.0;
        earlier = elim
            (earlier_or_last before item r.0 (contains_in r.0 behind r.1)) [
              | inl h ↦
                  (let w = earlier_within before r.0 h in omega arith)
              | inr e ↦ omega arith
            ];
        active = r.1;
        there = r.2;
      } in
      λ n s e c t. elim (earlier_or_last before item n (contains_in n behind e)) [
        | inl h ↦ (let kept = l.to n s (earlier_within before n h) e c t in record {
          first = kept.first;
          earlier = kept.earlier;
          active = kept.active;
          there =
              subst (λ w. Contains w (by_essential kept.first s)) (sym adds.whole) (Contains-append_left (take count found) adds.more (by_essential kept.first s)
              kept.there);
        })
        | inr z ↦ last n s z (adds.there s (subst (λ w. Contains (item_list (old ++ symbols ∷ []) w) s) z c) t)
      ];
}
  where
    behind : List ℕ
    behind = active_numbers is_essential_item (before ++ item ∷ [])

    l : AreLeftOf behind (old ++ symbols ∷ []) (length before) (take count found)
    l = left before item old symbols found count long are dropped

    cases : (v : EssentialVariable) → Contains new v → Contains (take count found) v ⊎ Contains adds.more v
    cases v c = Contains-append_cases (take count found) adds.more v (subst (λ w. Contains w v) adds.whole c)

-- ---- the numbers of the `$f` of the variables

-- those of the variables that are kept are those of all symbols of the active `$e`
pub float_variable : (b : Bool) (n : ℕ) (ns : List ℕ) → In n (cond b ns []) → b ≡ true
float_variable true n ns h = refl
float_variable false n ns h = absurd h

pub known_to : (tables : Tables) (essentials : List ℕ) (expressions : List (List NumberedSymbol)) (found : List EssentialVariable) → AreVariablesOf essentials expressions found → (n : ℕ)
    → In n (flat_map (λ m. float_numbers tables (item_list expressions m)) essentials) → In n (flat_map (known_float tables essentials) found)
known_to tables essentials expressions found are n h =
    let r = from_flat (λ m. float_numbers tables (item_list expressions m)) n essentials h in
    let s = from_flat (float_number tables) n (item_list expressions r.0) r.2 in
    let kept = are.to r.0 s.0 (in_contains r.0 essentials r.1) (in_contains s.0 (item_list expressions r.0) s.1) (float_variable (s.0).variable n _ s.2) in
    in_flat (known_float tables essentials) (by_essential kept.first s.0) n found (contains_in (by_essential kept.first s.0) found kept.there)
    (subst (λ c. In n (cond c (float_number tables s.0) [])) (sym (in_among essentials kept.first (contains_in kept.first essentials kept.active))) s.2)
