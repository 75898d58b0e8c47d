-- Pairs in the order of their keys: which of them may be that of two symbols.
use Rattle.std.proofs.lemmas.{Grind.{common_steps}, Bool.{false≢true, Decides.{nat_tests}}, List.Elements.{All-contains}}
use Rattle.std.proofs.Common.{◌≡◌, ℕ, ◌<◌, ◌≤◌, true, false, Some, List, length, arith, slice_get, sym, ap, ◌∙◌}
use native.Mathlib.Decide.{dec_lt}
use Rattle.mm_machine.specs.Language.{Frame.{Symbol, ArePair}, NumberedSymbols.{AreInOrder, by_number, comes_before, name_numbers}, CodeLists.{meant_pair, meant_pairs}}
use Rattle.mm_machine.specs.{Language.Keys.{AreInKeyOrder, key_by_number, pair_keys}, declared.symbol.NumberedSymbol.{NumberedSymbol}, Code.PairClause.{IsPair}}
use Rattle.mm_machine.proofs.lemmas.{machine.{ApartLemmas.{EachUpTo, pair_nowhere}, FlatLemmas.{unmapped}}, lists.Members.{contains_at}}

-- what does not come before it comes before what it comes before
pub before_on : (a b c : ℕ × ℕ) → comes_before b a ≡ false → comes_before b c ≡ true → comes_before a c ≡ true
before_on a b c h k = grind (arith, nat_tests)

not_itself : (a : ℕ × ℕ) → comes_before a a ≡ false
not_itself a = grind (arith, nat_tests)

-- the keys of a pair are those of its symbols in either order
keys_of_pair : (key : Symbol → ℕ) (p : Symbol × Symbol) (x y : Symbol) → IsPair p x y → pair_keys key p ≡ pair_keys key (x, y)
keys_of_pair key p x y h = grind (arith, common_steps) steps 200000

-- no pair whose keys come before is that of the two symbols
pub none_before : (key : Symbol → ℕ) (pairs : List (Symbol × Symbol)) (n : ℕ) (x y : Symbol)
    → ((k : ℕ) (p : Symbol × Symbol) → k < n → slice_get pairs k ≡ Some p → comes_before (pair_keys key p) (pair_keys key (x, y)) ≡ true) → EachUpTo (λ p. IsPair p x y → ⊥) pairs n
none_before key pairs n x y before k p l e is = grind (arith, common_steps, not_itself (pair_keys key (x, y)), keys_of_pair key p x y is, false≢true) steps 200000

-- and none from a pair on that they come before
pub none_behind : (key : Symbol → ℕ) (pairs : List (Symbol × Symbol)) (n : ℕ) (at : Symbol × Symbol) (x y : Symbol) → AreInKeyOrder key pairs → slice_get pairs n ≡ Some at
    → comes_before (pair_keys key (x, y)) (pair_keys key at) ≡ true → EachUpTo (λ p. IsPair p x y → ⊥) pairs n → ArePair pairs x y → ⊥
none_behind key pairs n at x y order there before front = pair_nowhere pairs (length pairs) x y (omega arith) (λ k p l e is. elim (dec_lt k n) [
  | yes l ↦ front k p l e is
  | no m ↦ false≢true (sym (order n k at p (omega arith) there e) ∙ ap (λ w. comes_before w (pair_keys key at)) (keys_of_pair key p x y is) ∙ before)
])

-- in the order of the numbers of their names, pairs are in the order of the keys of numbered symbols
low_keys : (p : NumberedSymbol × NumberedSymbol) → p.0.name ≤ p.1.name → pair_keys key_by_number (meant_pair by_number p) ≡ name_numbers p
low_keys p l = grind (arith, common_steps, nat_tests) steps 200000

pub numbered_in_order : (kept : List (NumberedSymbol × NumberedSymbol)) → AreInOrder kept → AreInKeyOrder key_by_number (meant_pairs by_number kept)
numbered_in_order kept in_order i j p q l e f =
    let a = unmapped (meant_pair by_number) kept i p e in
    let b = unmapped (meant_pair by_number) kept j q f in
    let low : (k : ℕ) (r : NumberedSymbol × NumberedSymbol) → slice_get kept k ≡ Some r → pair_keys key_by_number (meant_pair by_number r) ≡ name_numbers r
    = λ k r g. low_keys r (All-contains (λ (w : NumberedSymbol × NumberedSymbol). w.0.name ≤ w.1.name) kept r in_order.low (contains_at kept k r g)) in
    rw (← a.2, ← b.2, low i a.0 a.1, low j b.0 b.1) (in_order.rising i j a.0 b.0 l a.1 b.1)
