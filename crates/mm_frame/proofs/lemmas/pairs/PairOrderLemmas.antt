-- Lists of pairs in the order of the numbers of their names: after a sort, and with each kept once.
use Rattle.std.proofs.lemmas.{Grind.{common_steps}, Bool.Decides.{nat_tests}, Option.{none-some, same_Some}, List.Elements.{All-nil, All-cons, All-tail, All-append, All-contains}}
use Rattle.std.proofs.lemmas.List.{Filters.{dedup_is, All-dedup}, Sorted.{All-permutation}}
use Rattle.std.proofs.Common.{◌≡◌, ℕ, zero, suc, ◌+◌, ◌≤◌, Bool, true, false, cond, Some, List, [], ◌∷◌, flat_map, map, get_or, slice_get, refl, sym, ◌∙◌, ap, subst, arith, leb-true}
use Rattle.std.specs.{Prelude.{All, ⊤}, Ordering.{is_lt, nat_cmp, ordering_then}, List.{dedup, dedup_from, Sorted.{IsPermutation, IsSortedBy}, Retain.{IsFiltered, DiffersFromLast}}}
use Rattle.mm_machine.specs.{declared.symbol.NumberedSymbol.{NumberedSymbol}, Language.NumberedSymbols.{AreInOrder, comes_before, name_numbers}}
use Rattle.mm_frame.{specs.Code.{KeptPairLists.{pairs_among, with_low_first}, KeptLists.{item_list}}, proofs.lemmas.lists.Members.{in_contains, get_in}}

abbrev Pair : Type 0
Pair = NumberedSymbol × NumberedSymbol

-- none of the later pairs comes before this one
abbrev IsBefore : Pair → Pair → Type 0
IsBefore p q = comes_before (name_numbers q) (name_numbers p) ≡ false

-- the same holds for each of them
abbrev Rise : List Pair → Type 0
Rise [] = ⊤
Rise (p ∷ ps) = All (IsBefore p) ps × Rise ps

-- the test that a sort by the numbers of the names goes by
abbrev pub sorts_before : Pair → Pair → Bool
sorts_before p q = is_lt (ordering_then (nat_cmp p.0.name q.0.name) (nat_cmp p.1.name q.1.name))

sorts_so : (p q : Pair) → sorts_before q p ≡ false → IsBefore p q
sorts_so p q h = grind (arith, nat_tests)

sorted_rise : (ps : List Pair) → IsSortedBy sorts_before ps → Rise ps
sorted_rise [] up = tt
sorted_rise (p ∷ []) up = (All-nil (IsBefore p), tt)
sorted_rise (p ∷ q ∷ ps) up =
    let rest =
    sorted_rise (q ∷ ps) ((λ k d l m. let next : suc (k + 1) ≡ suc k + 1 = omega arith in
    ap (λ n. sorts_before (get_or (p ∷ (q ∷ ps)) n d) (get_or (q ∷ ps) k d)) next ∙ up (suc k) d (omega arith) (omega arith))) in
    let next = sorts_so p q (up 0 p (omega arith) (omega arith)) in
    (All-cons (IsBefore p) q ps next (λ k d l. (grind (arith, common_steps, nat_tests, rest.0 k d l) steps 200000)), rest)

-- if each is kept once, they still rise
module _ (same : Pair → Pair → Bool) where
  rise_if : (b : Bool) (ps qs : List Pair) → (b ≡ true → Rise ps) → (b ≡ false → Rise qs) → Rise (cond b ps qs)
  rise_if true ps qs h k = h refl
  rise_if false ps qs h k = k refl

  once_from : (p : Pair) (ps : List Pair) → All (IsBefore p) ps → Rise ps → Rise (dedup_from same p ps)
  once_from p [] h k = (All-nil (IsBefore p), tt)
  once_from p (q ∷ ps) h k = rise_if (same q p) (dedup_from same p ps) (p ∷ dedup_from same q ps)
      (λ _. once_from p ps (All-tail (IsBefore p) q ps h) k.1)
      (λ _. (All-dedup same (IsBefore p) (q ∷ ps) h, once_from q ps k.0 k.1))

  once : (ps : List Pair) → Rise ps → Rise (dedup same ps)
  once [] h = tt
  once (p ∷ ps) h = once_from p ps h.0 h.1

rise_at : (ps : List Pair) → Rise ps → (i j : ℕ) (p q : Pair) → i ≤ j → slice_get ps i ≡ Some p → slice_get ps j ≡ Some q → IsBefore p q
rise_at [] h i j p q l e f = absurd (none-some p e)
rise_at (x ∷ xs) h zero zero p q l e f = subst (IsBefore p) (same_Some p q (sym e ∙ f)) (grind (arith, common_steps, nat_tests) steps 200000)
rise_at (x ∷ xs) h zero (suc j) p q l e f = subst (λ w. IsBefore w q) (same_Some x p e) (All-contains (IsBefore x) xs q h.0 (in_contains q xs (get_in q xs j f)))
rise_at (x ∷ xs) h (suc i) zero p q l e f = absurd (omega arith)
rise_at (x ∷ xs) h (suc i) (suc j) p q l e f = rise_at xs h.1 i j p q (omega arith) e f

-- each pair that is collected for `$d` has the lower number first
abbrev pub IsLowFirst : Pair → Type 0
IsLowFirst p = p.0.name ≤ p.1.name

each_low : (x : NumberedSymbol) (xs : List NumberedSymbol) → All IsLowFirst (map (λ y. with_low_first (x, y)) xs)
each_low x [] = All-nil IsLowFirst
each_low x (y ∷ ys) = grind (arith, common_steps, each_low x ys, leb-true, nat_tests) steps 200000

among_low : (xs : List NumberedSymbol) → All IsLowFirst (pairs_among xs)
among_low [] = All-nil IsLowFirst
among_low (x ∷ xs) = All-append IsLowFirst (map (λ y. with_low_first (x, y)) xs) (pairs_among xs) (each_low x xs) (among_low xs)

pub all_low : (expressions : List (List NumberedSymbol)) (numbers : List ℕ) → All IsLowFirst (flat_map (λ n. pairs_among (item_list expressions n)) numbers)
all_low expressions [] = All-nil IsLowFirst
all_low expressions (n ∷ numbers) = All-append IsLowFirst (pairs_among (item_list expressions n)) (flat_map (λ m. pairs_among (item_list expressions m)) numbers)
    (among_low (item_list expressions n)) (all_low expressions numbers)

-- sorted, and each once
pub sorted_in_order : (same : Pair → Pair → Bool) (listed sorted kept : List Pair) → IsPermutation listed sorted → IsSortedBy sorts_before sorted → IsFiltered (DiffersFromLast same) [] sorted kept
    → All IsLowFirst listed → AreInOrder kept
sorted_in_order same listed sorted kept moved up filtered low = record {
  low =
      subst (All IsLowFirst) (sym (dedup_is same sorted kept filtered)) (All-dedup same IsLowFirst sorted (All-permutation IsLowFirst listed sorted moved low));
  rising = rise_at kept (subst Rise (sym (dedup_is same sorted kept filtered)) (once same sorted (sorted_rise sorted up)));
}
