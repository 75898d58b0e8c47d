-- Sorted lists, some of them made of two others: they stay as they are while more lists come.
use Rattle.std.proofs.{Common.{rules, ◌≡◌, ℕ, ◌<◌, Some, List, [], ◌++◌, length, slice_get, All, sym, ◌∙◌, ap, subst, append-nil, arith, inl, inr}, lemmas.Grind.{common_steps}}
use Rattle.std.proofs.lemmas.{List.Elements.{All-append, Contains-append_cases, Contains-append_left, Contains-append_right}, Option.{slice_get_within, slice_get_cases}}
use Rattle.mm_frame.{specs.Code.KeptSortedLists.{HasBoth, HasSame, IsJoined, IsOfBoth, IsThere, KeepsAll, Kept, list_at, pairs_or_none}, proofs.lemmas.lists.Members.{get_join}}
use Rattle.mm_frame.proofs.lemmas.pairs.PairOrderLemmas.{IsLowFirst}
use Rattle.mm_machine.specs.{declared.symbol.NumberedSymbol.{NumberedSymbol}, Language.NumberedSymbols.{AreInOrder}}

-- a list that is there stays there
pub stays_there : (old new : List Kept) (k : ℕ) (list : Kept) → KeepsAll old new → slice_get old k ≡ Some list → slice_get new k ≡ Some list
stays_there old new k list keeps there = ap (λ w. slice_get w k) keeps.whole ∙ get_join old keeps.more k list there

pub is_within : (lists : List Kept) (k : ℕ) (list : Kept) → slice_get lists k ≡ Some list → k < length lists
is_within lists k list there = slice_get_within lists k list there

pub same_at : (old new : List Kept) (k : ℕ) → KeepsAll old new → k < length old → list_at new k ≡ list_at old k
same_at old new k keeps within = grind (arith, common_steps, slice_get_cases, stays_there) steps 200000

pub of_both_stays : (one other : List (NumberedSymbol × NumberedSymbol)) (old new : List Kept) (k : ℕ) → KeepsAll old new → IsOfBoth one other old k → IsOfBoth one other new k
of_both_stays one other old new k keeps is = record { both = is.both; there = record { list = is.there.list; there = stays_there old new k is.there.list keeps is.there.there; same = is.there.same }; has = is.has }

longer : (old new : List Kept) (n : ℕ) → KeepsAll old new → n < length old → n < length new
longer old new n keeps within = grind (arith, common_steps, is_within, slice_get_cases, stays_there) steps 200000

still_both : (old new : List Kept) (first second k : ℕ) → KeepsAll old new → first < length old → second < length old → IsOfBoth (list_at old first) (list_at old second) new k → IsJoined new first second k
still_both old new first second k keeps one two is = grind (arith, common_steps, longer, same_at) steps 200000

pub joined_stays : (old new : List Kept) (first second k : ℕ) → KeepsAll old new → IsJoined old first second k → IsJoined new first second k
joined_stays old new first second k keeps is = search (rules, of_both_stays, still_both)

-- one more that was made of two
pub one_joined : (old new : List Kept) (first second k : ℕ) (both : List (NumberedSymbol × NumberedSymbol)) → KeepsAll old new → first < length old → second < length old
    → HasBoth (list_at old first) (list_at old second) both → IsThere new k both → IsJoined new first second k
one_joined old new first second k both keeps one two has there = still_both old new first second k keeps one two (record { both = both; there = there; has = has })

-- the pairs of two lists, sorted
pub has_both : (one other both : List (NumberedSymbol × NumberedSymbol)) → HasSame (one ++ other) both → (All IsLowFirst (one ++ other) → AreInOrder both) → HasBoth one other both
has_both one other both same order = record { same = same; order = λ a b. order (All-append IsLowFirst one other a.low b.low) }

-- both lists, of which one was sorted
pub both_of : (one other own base sorted both : List (NumberedSymbol × NumberedSymbol)) → one ≡ sorted → other ≡ base → HasSame own sorted
    → HasBoth one other both → HasSame (own ++ base) both × (AreInOrder sorted → AreInOrder base → AreInOrder both)
both_of one other own base sorted both is also same has =
    let h = subst (λ w. HasSame (w ++ base) both) is (subst (λ w. HasSame (one ++ w) both) also has.same) in (
      (
        λ p q. h.0 p (elim (Contains-append_cases own base p q) [ inl a ↦ Contains-append_left sorted base p (same.0 p a) | inr b ↦ Contains-append_right sorted base p b ]),
        λ p q. elim (Contains-append_cases sorted base p (h.1 p q)) [ inl a ↦ Contains-append_left own base p (same.1 p a) | inr b ↦ Contains-append_right own base p b ],
      ),
      λ a b. has.order (subst AreInOrder (sym is) a) (subst AreInOrder (sym also) b),
    )

-- a list without pairs adds nothing
there_at : (lists : List Kept) (k : ℕ) → k < length lists → IsThere lists k (list_at lists k)
there_at lists k within = elim (slice_get_cases lists k).1 [
  | inl p ↦ record { list = p.0; there = p.2; same = sym (ap pairs_or_none p.2) }
  | inr p ↦ absurd (omega (arith, within, p.0))
]

pub adds_nothing : (lists : List Kept) (first second : ℕ) → list_at lists second ≡ [] → first < length lists → IsOfBoth (list_at lists first) (list_at lists second) lists first
adds_nothing lists first second none within =
    let one = list_at lists first in
    subst (λ w. IsOfBoth one w lists first) (sym none) (record {
      both = one;
      there = there_at lists first within;
      has = record { same = subst (λ w. HasSame w one) (sym (append-nil one)) (λ p q. q, λ p q. q); order = λ a b. a };
    })

pub nothing_adds : (lists : List Kept) (first second : ℕ) → list_at lists first ≡ [] → second < length lists → IsOfBoth (list_at lists first) (list_at lists second) lists second
nothing_adds lists first second none within = grind (arith, common_steps, there_at lists second within) steps 200000

-- and a list with pairs is there
pub some_within : (lists : List Kept) (k : ℕ) → (list_at lists k ≡ [] → ⊥) → k < length lists
some_within lists k some = grind (arith, common_steps, slice_get_cases lists k) steps 200000
