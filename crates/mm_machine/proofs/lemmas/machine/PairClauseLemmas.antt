-- What is gathered, and the pair clause.
use Rattle.std.proofs.Common.{[], ◌∷◌, ◌++◌, true, false, ◌≡◌, ℕ, ◌+◌, Some, List, length, map, take, get_or, sym, ◌∙◌, ap, ap₂, subst, arith, inl, inr, refl, ◌↔◌, slice_get, slice_index_or, Contains}
use Rattle.std.proofs.{Common.{All, Any}, lemmas.{List.{map_push, Elements.{All-contains, All-map, All-push}}, Option.{slice_get_within, get_or_from_slice_get, slice_get-get_or, same_Some}}}
use Rattle.mm_machine.specs.Language.{Frame.{Symbol, Mandatory, HasVariable}, Derivation.{AreApart, ShareVariable}, Faults.{LackPair}}
use Rattle.mm_machine.specs.Code.PairClause.{Apart, ApartAt, AreNumbersOf, AreSlotPairs, AtEachPair, AtSlots, EachApart, Gathers, HasNumber, IsIn, KnowsApart, SomeNotApart, SomeShared, entry_or}
use Rattle.mm_machine.specs.{Code.{PairClause.{HasSlots, IsSlot, IsSomeSlot, set_at, slot_pair, variable_at}, Citation.{AreAllTyped, GivesEntries}}, declared.gather.SlotPair.{SlotPair}}
use Rattle.mm_machine.{specs.declared.{pattern.Entry.{Entry}, sets.Chunk.{Chunk}, apart.KnownApart.{KnownApart}}, proofs.lemmas.machine.{FlatLemmas.{mapped_get, unmapped}, EntryFaults.{slot_gives}}}
use Rattle.mm_machine.proofs.lemmas.{machine.GatherLemmas.{part_of, still_at}, lists.Members.{contains_at, take_next}}

-- the variable of a slot
slot_variable : (hs : List Mandatory) (j : ℕ) (v : Symbol) → IsSlot hs j v → variable_at hs j ≡ v
slot_variable hs j v is =
    let none : Symbol = record { name = []; variable = false } in
    ap (λ (h : Mandatory). slice_index_or h.expression 1 none) (get_or_from_slice_get hs j is.0 (record { floating = true; expression = [] }) is.1)
    ∙ get_or_from_slice_get is.0.expression 1 v none is.3

-- the slots of one more pair
pub slots_more : (hs : List Mandatory) (pairs : List (Symbol × Symbol)) (n : ℕ) (x : Symbol × Symbol) (slots : List SlotPair) (p : SlotPair) → slice_get pairs n ≡ Some x
    → IsSlot hs p.first x.0 → IsSlot hs p.second x.1 → HasSlots hs (take n pairs) slots → HasSlots hs (take (n + 1) pairs) (slots ++ p ∷ [])
slots_more hs pairs n x slots p at first second has = record {
  are =
      map_push (slot_pair hs) slots p
      ∙ ap₂ (λ (ps : List (Symbol × Symbol)) (q : Symbol × Symbol). ps ++ q ∷ []) has.are
      (ap₂ (λ (v w : Symbol). (v, w)) (slot_variable hs p.first x.0 first) (slot_variable hs p.second x.1 second))
      ∙ sym (take_next pairs n x at);
  some = All-push (λ (q : SlotPair). IsSomeSlot hs q.first × IsSomeSlot hs q.second) slots p has.some ((x.0, first), (x.1, second));
}

-- the variables that two numbers name
named_once : (all : List Symbol) → ((m n : ℕ) (v : Symbol) → slice_get all m ≡ Some v → slice_get all n ≡ Some v → m ≡ n)
    → (xs ys : List Chunk) (v : Symbol) → IsIn all xs v → IsIn all ys v → SomeShared xs ys
named_once all once xs ys v i j = (i.0, i.1, subst (HasNumber ys) (sym (once i.0 j.0 v i.2 j.2)) j.1)

apart_named : (active : List (Symbol × Symbol)) (all : List Symbol) (xs ys : List Chunk) (a b : Symbol) → EachApart active all xs ys → IsIn all xs a → IsIn all ys b → Apart active a b
apart_named active all xs ys a b each i j =
    let r = each i.0 j.0 i.1 j.1 in
    subst (λ x. Apart active x b) (same_Some r.0 a (sym r.2 ∙ i.2)) (subst (λ y. Apart active r.0 y) (same_Some r.1 b (sym r.3 ∙ j.2)) r.4)

-- what is known stays known of more variables
pub knows_more : (active : List (Symbol × Symbol)) (all more : List Symbol) (known : KnownApart) → KnowsApart active all known → KnowsApart active (all ++ more) known
knows_more active all more known k = record { first = λ m n i. still m n (k.first m n i); later = λ r c n i. still r.variable n (k.later r c n i) }
  where
    still : (m n : ℕ) → ApartAt active all m n → ApartAt active (all ++ more) m n
    still m n a = (a.0, a.1, still_at all more m a.0 a.2, still_at all more n a.1 a.3, a.4)

module _ (hs : List Mandatory) (es : List (List Symbol)) (all : List Symbol) (chunks : List Chunk) (spans : List Entry) (count : ℕ) (long : length hs ≡ count)
    (given : Symbol → List Symbol) (is : AreAllTyped hs) (gives : GivesEntries given hs es) (gathers : Gathers hs es all chunks spans count) (wanted : List (Symbol × Symbol)) (pairs : List SlotPair) (has : HasSlots hs wanted pairs)
    (once : (m n : ℕ) (v : Symbol) → slice_get all m ≡ Some v → slice_get all n ≡ Some v → m ≡ n) where
  -- the set of a slot has the variables that are given
  span_gives : (j : ℕ) → IsSomeSlot hs j → (z : Symbol) → HasVariable (given (variable_at hs j)) z ↔ IsIn all (set_at chunks spans j) z
  span_gives j s z =
      let slot = s.1 in
      let e = slot_gives hs given es is gives j s.0 slot in
      let d : Entry = record { start = 0; end = 0; floor = 0 } in
      let at = slice_get-get_or spans j d (omega (arith, gathers.count, long, slice_get_within hs j slot.0 slot.1)) in
      rw (slot_variable hs j s.0 slot, e.2, at) (gathers.right j (get_or spans j d) slot.0 e.0 at slot.1 slot.2 e.1 z)

  slots_at : (k : ℕ) (p : SlotPair) → slice_get pairs k ≡ Some p → IsSomeSlot hs p.first × IsSomeSlot hs p.second
  slots_at k p at = All-contains (λ (p : SlotPair). IsSomeSlot hs p.first × IsSomeSlot hs p.second) pairs p has.some (contains_at pairs k p at)

  pub apart_given : (active : List (Symbol × Symbol)) → AtEachPair (EachApart active all) chunks spans pairs → All (λ pair. AreApart active (given pair.0) (given pair.1)) wanted
  apart_given active each = subst (All (λ pair. AreApart active (given pair.0) (given pair.1))) has.are (All-map (λ (pair : Symbol × Symbol). AreApart active (given pair.0) (given pair.1)) (slot_pair hs) pairs (λ k d l.
      let p = get_or pairs k d in
      let at = slice_get-get_or pairs k d l in
      let xs = set_at chunks spans p.first in
      let ys = set_at chunks spans p.second in
      let s = slots_at k p at in
      record {
        unshared = λ h. (apart_named active all xs ys h.0 h.0 (each k p at) ((span_gives p.first s.0 h.0).0 h.1) ((span_gives p.second s.1 h.0).0 h.2)).0 refl;
        paired = λ a b h i n. (apart_named active all xs ys a b (each k p at) ((span_gives p.first s.0 a).0 h) ((span_gives p.second s.1 b).0 i)).1;
      }))

  any_pair : (P : List Symbol → List Symbol → Type 0) (k : ℕ) (p : SlotPair) → slice_get pairs k ≡ Some p → P (given (variable_at hs p.first)) (given (variable_at hs p.second))
      → Any (λ pair. P (given pair.0) (given pair.1)) wanted
  any_pair P k p at h =
      let q = slot_pair hs p in
      let ps = map (slot_pair hs) pairs in
      let there = mapped_get (slot_pair hs) pairs k p (slice_get_within pairs k p at) (sym (get_or_from_slice_get pairs k p p at)) in
      subst (Any (λ pair. P (given pair.0) (given pair.1))) has.are (k, q, slice_get_within ps k q there, get_or_from_slice_get ps k q q there, h)

  pub shared_given : (k : ℕ) (p : SlotPair) → slice_get pairs k ≡ Some p → AtSlots SomeShared chunks spans p → Any (λ pair. ShareVariable (given pair.0) (given pair.1)) wanted
  shared_given k p at h =
      let s = slots_at k p at in
      let nothing : Symbol = record { name = []; variable = false } in
      let number = h.1 in
      let within = gathers.numbers h.0 (number.0, part_of chunks (entry_or (slice_get spans p.first)) number.0 number.1, number.2) in
      let v = get_or all h.0 nothing in
      let there = slice_get-get_or all h.0 nothing within in
      any_pair ShareVariable k p at (v, (span_gives p.first s.0 v).1 (h.0, h.1, there), (span_gives p.second s.1 v).1 (h.0, h.2, there))

  pub none_shared : AtEachPair (λ xs ys. SomeShared xs ys → ⊥) chunks spans pairs → Any (λ pair. ShareVariable (given pair.0) (given pair.1)) wanted → ⊥
  none_shared none shared =
      let a = subst (Any (λ pair. ShareVariable (given pair.0) (given pair.1))) (sym has.are) shared in
      let x = unmapped (slot_pair hs) pairs a.0 a.1 (slice_get-get_or (map (slot_pair hs) pairs) a.0 a.1 a.2 ∙ ap Some a.3) in
      let p = x.0 in
      let s = slots_at a.0 p x.1 in
      let h = subst (λ (w : Symbol × Symbol). ShareVariable (given w.0) (given w.1)) (sym x.2) a.4 in
      none a.0 p x.1 (named_once all once (set_at chunks spans p.first) (set_at chunks spans p.second) h.0 ((span_gives p.first s.0 h.0).0 h.1) ((span_gives p.second s.1 h.0).0 h.2))

  pub lack_given : (active : List (Symbol × Symbol)) (k : ℕ) (p : SlotPair) → slice_get pairs k ≡ Some p → AtSlots (SomeNotApart active all) chunks spans p
      → AtEachPair (λ xs ys. SomeShared xs ys → ⊥) chunks spans pairs → Any (λ pair. LackPair active (given pair.0) (given pair.1)) wanted
  lack_given active k p at (m, n, hm, hn, (x, y, at_x, at_y, apart)) none =
      let s = slots_at k p at in
      let xs = set_at chunks spans p.first in
      let ys = set_at chunks spans p.second in
      let i : IsIn all xs x = (m, hm, at_x) in
      let j : IsIn all ys y = (n, hn, at_y) in
      elim apart [
        | inl e ↦ absurd (none k p at (named_once all once xs ys x i (subst (IsIn all ys) (sym e) j)))
        | inr o ↦ any_pair (LackPair active) k p at (x, y, (span_gives p.first s.0 x).1 i, (span_gives p.second s.1 y).1 j, o.0, o.1)
      ]

-- the slots of pairs are among the ranges, if there is one for each hypothesis
pub slots_within : (hs : List Mandatory) (spans : List Entry) (count : ℕ) (wanted : List (Symbol × Symbol)) (pairs : List SlotPair) → length hs ≡ count → length spans ≡ count
    → HasSlots hs wanted pairs → AreSlotPairs (length spans) pairs
slots_within hs spans count wanted pairs long as_long has k d l =
    let p = get_or pairs k d in
    let s = has.some k d l in
    (omega (arith, slice_get_within hs p.first s.0.1.0 s.0.1.1), omega (arith, slice_get_within hs p.second s.1.1.0 s.1.1.1))

-- what holds of two sets that are those of two slots
pub at_slots : (P : List Chunk → List Chunk → Type 0) (chunks : List Chunk) (spans : List Entry) (p : SlotPair) (xs ys : List Chunk) → xs ≡ set_at chunks spans p.first → ys ≡ set_at chunks spans p.second → P xs ys → AtSlots P chunks spans p
at_slots P chunks spans p xs ys e f h = subst (λ w. P w (set_at chunks spans p.second)) e (subst (λ w. P xs w) f h)

-- each number of a slot's set is one of the variables
pub slot_numbers : (all : List Symbol) (chunks : List Chunk) (spans : List Entry) (j : ℕ) (set : List Chunk) → set ≡ set_at chunks spans j → AreNumbersOf all chunks → AreNumbersOf all set
slot_numbers all chunks spans j set e numbers n h = numbers n (h.0, part_of chunks (entry_or (slice_get spans j)) h.0 (subst (λ w. Contains w h.0) e h.1), h.2)
