-- The places of the variables of a frame: with one more of them, and those of the ones that an active `$d` has together with one.
use Rattle.std.proofs.lemmas.{Option.{slice_get_within, same_Some}, List.{map-append, Kept.{Contains-dedup_nat, Contains-from_dedup}, Elements.{All-append, All-contains}, Filters.{dedup_is}}}
use Rattle.std.proofs.lemmas.{List.Sorted.{IsPermutation-sym, Contains-permutation}, Grind.{common_steps}, Bool.{false_from_ne_true, eqb-true, eq-eqb, lt-ltb, ltb-true, or_right}}
use Rattle.std.proofs.Common.{◌≤◌, length, ◌≡◌, ℕ, zero, suc, ◌+◌, ◌-◌, ◌<◌, Bool, true, false, cond, nat_eq, Some, None, List, [], ◌∷◌, ◌++◌, All, option_to_list, nat_lt, ◌↔◌, filter, flat_map, take}
use Rattle.std.{proofs.Common.{drop, slice_get, get_or, refl, sym, ◌∙◌, ap, subst, arith, inl, inr, Contains, eqb}, specs.List.{Sorted.{IsPermutation}, Retain.{IsFiltered, DiffersFromLast}}}
use native.Mathlib.Decide.{dec_lt}
use Rattle.mm_machine.specs.{declared.symbol.NumberedSymbol.{NumberedSymbol}, Language.{Frame.{Symbol}, Names.{name_at}}}
use Rattle.mm_machine.specs.Language.NumberedSymbols.{symbol_of, symbols_of, pair_of, kept_pairs, IsNumbered, IsPairNumbered, ArePairsRead}
use Rattle.mm_frame.specs.{declared.{disjoint_rows.DisjointRows.{DisjointRows}, places.Places.{Places}, earlier.Earlier.{Earlier}}, Language.{Framing.{symbol, expression, active_pairs}, Marks.{Mark}}}
use Rattle.mm_frame.specs.{Language.Answering.{are_paired}, Code.{BlockMarks.{stays_by}, KeptEarlier.{KnowsEarlier}, KeptDisjointRows.{row_at, IsDisjointAt, ReadsPairs}}}
use Rattle.mm_frame.specs.Code.{KeptPlaces.{place_of, ArePlaces, later_place, later_places_at, pair_at}, KeptSymbols.{AreSymbols}, LastItems.{IsRising}, Numbers.{IsNameNumber}, KeptLists.{item_list}}
use Rattle.mm_frame.proofs.lemmas.frames.{Frames.{in_at}, HypothesisNumbers.{rise_step, same_rising, drop_step}}
use Rattle.mm_frame.proofs.lemmas.lists.Members.{In, in_contains, contains_in, in_map, from_map, in_filter, from_filter, in_flat, from_flat, get_in, has_in, in_cond, first_cases, in_first, in_later}
use Rattle.mm_frame.proofs.lemmas.{lists.Rising.{get_drop}, names.NumberLemmas.{name_there}, pairs.ActivePairLemmas.{pairs_with}}
use Rattle.mm_frame.proofs.lemmas.pairs.{DisjointRowLemmas.{named_in, paired_from, paired_to, active_at_marks}, PairAnswerLemmas.{names_apart}}
use Rattle.mm_statement.specs.Language.Item.{Said, is_labelled, is_kind, Disjoint}

-- ---- one more symbol

-- the first symbols are found by their names, and no other name is
pub record PlacedTo (n : ℕ) (symbols : List NumberedSymbol) (places : Places) : Type 0 where
  pub each : (k : ℕ) (symbol : NumberedSymbol) → k < n → slice_get symbols k ≡ Some symbol → place_of places symbol.name ≡ Some k
  pub only : (k name : ℕ) → place_of places name ≡ Some k → (symbol : NumberedSymbol) × (slice_get symbols k ≡ Some symbol) × (symbol.name ≡ name)

pub placed_more : (n : ℕ) (symbols : List NumberedSymbol) (old new : Places) (one : NumberedSymbol) → slice_get symbols n ≡ Some one → PlacedTo n symbols old → place_of old one.name ≡ None
    → ((name : ℕ) → place_of new name ≡ cond (nat_eq one.name name) (Some n) (place_of old name)) → PlacedTo (n + 1) symbols new
placed_more n symbols old new one there p fresh put = grind (arith, common_steps, dec_lt, eq-eqb, eqb-true, false_from_ne_true, same_Some) steps 200000

pub placed_all : (n : ℕ) (symbols : List NumberedSymbol) (places : Places) → length symbols ≤ n → PlacedTo n symbols places → ArePlaces symbols places
placed_all n symbols places end p = record { each = λ k symbol e. (let w = slice_get_within symbols k symbol e in p.each k symbol (omega arith) e); only = p.only }

-- ---- the places of those that pass a test

abbrev pub passing : {X : Type 0} → (X → Bool) → ℕ → List X → List ℕ
passing test n [] = []
passing test n (x ∷ xs) = cond (test x) (n ∷ passing test (suc n) xs) (passing test (suc n) xs)

record Passes {X : Type 0} (test : X → Bool) (n : ℕ) (xs : List X) (k : ℕ) : Type 0 where
  place : ℕ
  number : k ≡ n + place
  item : X
  there : slice_get xs place ≡ Some item
  good : test item ≡ true

from_passing : {X : Type 0} (test : X → Bool) (n : ℕ) (xs : List X) (k : ℕ) → In k (passing test n xs) → Passes test n xs k
from_passing test n [] k h = absurd h
from_passing test n (x ∷ xs) k h = elim (first_cases (test x) n k (passing test (suc n) xs) h) [
  | inl p ↦ (let q = p.0 in record { place = 0; number = omega arith; item = x; there = refl; good = p.1 })
  | inr m ↦ (let r = from_passing test (suc n) xs k m in let q = r.number in record { place = suc r.place; number = omega arith; item = r.item; there = r.there; good = r.good })
]

to_passing : {X : Type 0} (test : X → Bool) (n : ℕ) (xs : List X) (place : ℕ) (x : X) → slice_get xs place ≡ Some x → test x ≡ true → In (n + place) (passing test n xs)
to_passing test n [] place x e t = cc
to_passing test n (y ∷ ys) zero x e t = grind (arith, common_steps, same_Some y x e, in_first (test y) n (passing test (suc n) ys) (ap test (same_Some y x e) ∙ t)) steps 200000
to_passing test n (y ∷ ys) (suc place) x e t = grind (arith, common_steps, in_later (test y) (suc n + place) n (passing test (suc n) ys) (to_passing test (suc n) ys place x e t)) steps 200000

passing_rise : {X : Type 0} (test : X → Bool) (n : ℕ) (xs : List X) → IsRising (passing test n xs)
passing_rise test n [] = λ i j d l m. absurd (omega arith)
passing_rise test n (x ∷ xs) = rise_step (test x) n (passing test (suc n) xs) (λ m h. let r = from_passing test (suc n) xs m h in let q = r.number in omega arith) (passing_rise test (suc n) xs)

picked_first : (all : List (List ℕ)) (first : NumberedSymbol) (whole : List NumberedSymbol) (n : ℕ) (x : NumberedSymbol) (ns : List ℕ) (ps : List (Symbol × Symbol)) (b : Bool) → slice_get whole n ≡ Some x
    → kept_pairs all (flat_map (pair_at first whole) ns) ≡ ps → kept_pairs all (flat_map (pair_at first whole) (cond b (n ∷ ns) ns)) ≡ cond b ((symbol_of all first, symbol_of all x) ∷ ps) ps
picked_first all first whole n x ns ps true there e = grind (arith, common_steps) steps 200000
picked_first all first whole n x ns ps false there e = e

picked : (all : List (List ℕ)) (test : Symbol × Symbol → Bool) (first : NumberedSymbol) (whole : List NumberedSymbol) (n : ℕ) (xs : List NumberedSymbol) → drop n whole ≡ xs
    → kept_pairs all (flat_map (pair_at first whole) (passing (λ y. test (symbol_of all first, symbol_of all y)) n xs)) ≡ filter test (pairs_with (symbol_of all first) (symbols_of all xs))
picked all test first whole n [] e = refl
picked all test first whole n (x ∷ xs) e =
    grind (arith, common_steps, drop_step whole n x xs e, pairs_with (symbol_of all first) (symbols_of all xs), picked all test first whole (suc n) xs (drop_step whole n x xs e).0, picked_first) steps 200000

picked_numbered : (all : List (List ℕ)) (first : NumberedSymbol) (whole : List NumberedSymbol) (places : List ℕ) → IsNumbered all first → All (IsNumbered all) whole → All (IsPairNumbered all) (flat_map (pair_at first whole) places)
picked_numbered all first whole places a others k d l =
    let pairs = flat_map (pair_at first whole) places in
    let r = from_flat (pair_at first whole) (get_or pairs k d) places (in_at pairs k d l) in
    let s = from_map (λ (y : NumberedSymbol). (first, y)) (get_or pairs k d) (option_to_list (slice_get whole r.0)) r.2 in
    let y = s.0 in
    subst (IsPairNumbered all) s.2
    (a, (All-contains (IsNumbered all) whole y others (in_contains y whole (get_in y whole r.0 (grind (arith, common_steps, s.1) steps 200000)))))

-- ---- those that an active `$d` has together with a variable

-- what the search rests on
pub record Searches (all : List (List ℕ)) (before : List Said) (table : DisjointRows) (marks : List Mark) (expressions : List (List NumberedSymbol)) (places : Places) (variables : List NumberedSymbol) (n : ℕ) (first : NumberedSymbol) : Type 0 where
  pub reads : ReadsPairs all before table marks
  pub symbols : AreSymbols all before expressions
  pub placed : ArePlaces variables places
  pub numbered : All (IsNumbered all) variables
  pub there : slice_get variables n ≡ Some first

abbrev is_partner : List (List ℕ) → List Said → NumberedSymbol → NumberedSymbol → Bool
is_partner all before first y = are_paired (active_pairs before) (symbol_of all first, symbol_of all y)

-- an item of a place and its name
named_there : (all : List (List ℕ)) (variables : List NumberedSymbol) (k : ℕ) (y : NumberedSymbol) → All (IsNumbered all) variables → slice_get variables k ≡ Some y → IsNameNumber all y.name (name_at all y.name)
named_there all variables k y a e = name_there all y.name (All-contains (IsNumbered all) variables y a (in_contains y variables (get_in y variables k e)))

read_at : (all : List (List ℕ)) (before : List Said) (expressions : List (List NumberedSymbol)) (name : List ℕ) (d : ℕ) → AreSymbols all before expressions
    → (at : IsDisjointAt before name d) → symbols_of all (item_list expressions d) ≡ expression (take d before) at.item
read_at all before expressions name d a at = a.each d at.item at.there (or_right (is_labelled (at.item).kind) (is_kind Disjoint (at.item).kind) at.disjoint)

found_from : (all : List (List ℕ)) (before : List Said) (table : DisjointRows) (marks : List Mark) (expressions : List (List NumberedSymbol)) (places : Places) (variables : List NumberedSymbol) (n : ℕ) (first : NumberedSymbol)
    → Searches all before table marks expressions places variables n first → (k : ℕ) → In k (flat_map (later_places_at places marks expressions n)
    (row_at table first.name)) → In k (passing (is_partner all before first) (n + 1) (drop (n + 1) variables))
found_from all before table marks expressions places variables n first s k m =
    let x = name_at all first.name in
    let row = from_flat (later_places_at places marks expressions n) k (row_at table first.name) m in
    let d = row.0 in
    let kept = item_list expressions d in
    let stayed = in_cond (stays_by (drop (suc d) marks)) k (flat_map (later_place places n) kept) row.2 in
    let one = from_flat (later_place places n) k kept stayed.1 in
    let later = from_filter (nat_lt n) k (option_to_list (place_of places (one.0).name)) one.2 in
    let less : n < k = ltb-true n k later.1 in
    let found = (s.placed).only k (one.0).name (grind (arith, common_steps, later.0) steps 200000) in
    let y = found.0 in
    let yname = name_at all y.name in
    let a = named_there all variables n first s.numbered s.there in
    let at : IsDisjointAt before x d = ((s.reads).knows first.name x a).there d (in_contains d (row_at table first.name) row.1) in
    let there = subst (In (symbol_of all one.0)) (read_at all before expressions x d s.symbols at) (in_map (symbol_of all) one.0 kept one.1) in
    let named = named_in (take d before) at.item (symbol_of all one.0) yname there (ap (name_at all) (sym found.2)) in
    let apart : first.name ≡ y.name → ⊥ = grind (arith, common_steps, same_Some) steps 200000 in
    let names = names_apart all first.name y.name x yname before table marks s.reads a (named_there all variables k y s.numbered found.1) apart in
    let second : IsDisjointAt before yname d = record { item = at.item; there = at.there; disjoint = at.disjoint; named = named } in
    let paired = paired_to before x yname d names (record { first = at; second = second; stayed = active_at_marks before marks d (s.reads).marks ∙ stayed.0 }) in
    let z : (n + 1) + (k - (n + 1)) ≡ k = omega arith in
    grind (arith, common_steps, to_passing (is_partner all before first) (n + 1) (drop (n + 1) variables) (k - (n + 1)) y (get_drop variables (n + 1) (k - (n + 1)) k z ∙ found.1) paired) steps 500000

found_to : (all : List (List ℕ)) (before : List Said) (table : DisjointRows) (marks : List Mark) (expressions : List (List NumberedSymbol)) (places : Places) (variables : List NumberedSymbol) (n : ℕ) (first : NumberedSymbol)
    → Searches all before table marks expressions places variables n first → (k : ℕ) → In k (passing (is_partner all before first) (n + 1)
    (drop (n + 1) variables)) → In k (flat_map (later_places_at places marks expressions n) (row_at table first.name))
found_to all before table marks expressions places variables n first s k m =
    let x = name_at all first.name in
    let p = from_passing (is_partner all before first) (n + 1) (drop (n + 1) variables) k m in
    let y = p.item in
    let yname = name_at all y.name in
    let there = sym (get_drop variables (n + 1) p.place k (sym p.number)) ∙ p.there in
    let less : n < k = omega arith in
    let a = named_there all variables n first s.numbered s.there in
    let b = named_there all variables k y s.numbered there in
    let pair = paired_from before x yname (s.reads).sound p.good in
    let d = pair.1 in
    let have = pair.2 in
    let kept = item_list expressions d in
    let item = (have.second).item in
    let said = in_map (symbol (take d before)) yname item.symbols (has_in item.symbols yname (have.second).named) in
    let one = from_map (symbol_of all) (symbol (take d before) yname) kept (subst (In (symbol (take d before) yname)) (sym (read_at all before expressions yname d s.symbols have.second)) said) in
    let name : name_at all (one.0).name ≡ yname = ap (λ (w : Symbol). w.name) one.2 in
    let same : (one.0).name ≡ y.name = (s.reads).distinct (one.0).name y.name yname ((name_there all (one.0).name (All-contains (IsNumbered all) kept one.0 ((s.symbols).numbered d) (in_contains one.0 kept one.1))) ∙ ap Some name) b in
    let later = in_filter (nat_lt n) k (option_to_list (place_of places (one.0).name)) (subst (λ w. In k (option_to_list w)) (sym (ap (place_of places) same ∙ (s.placed).each k y there)) (inl refl)) (lt-ltb n k less) in
    in_flat (later_places_at places marks expressions n) d k (row_at table first.name) (contains_in d (row_at table first.name) (((s.reads).knows first.name x a).cover d have.first have.stayed))
    (subst (λ c. In k (cond c (flat_map (later_place places n) kept) [])) (sym (sym (active_at_marks before marks d (s.reads).marks) ∙ have.stayed))
    (in_flat (later_place places n) one.0 k kept one.1 later))

pub partners_added : (all : List (List ℕ)) (before : List Said) (table : DisjointRows) (marks : List Mark) (expressions : List (List NumberedSymbol)) (places : Places) (variables : List NumberedSymbol) (n : ℕ) (first : NumberedSymbol)
    → Searches all before table marks expressions places variables n first → (found : List ℕ) → IsRising found → ((k : ℕ) → Contains found k ↔ Contains (flat_map (later_places_at places marks expressions n) (row_at table first.name)) k)
    → (said : List (Symbol × Symbol)) (kept : List (NumberedSymbol × NumberedSymbol)) → ArePairsRead all said kept
    → ArePairsRead all (said ++ filter (are_paired (active_pairs before)) (pairs_with (symbol_of all first) (symbols_of all (drop (n + 1) variables)))) (kept ++ flat_map (pair_at first variables) found)
partners_added all before table marks expressions places variables n first s found rising same said kept r = record {
  pairs = map-append (pair_of all) kept (flat_map (pair_at first variables) found)
      ∙ (λ i. r.pairs i ++ kept_pairs all (flat_map (pair_at first variables) (whole i)))
      ∙ ap (λ w. said ++ w) (picked all (are_paired (active_pairs before)) first variables (n + 1) (drop (n + 1) variables) refl);
  numbered = All-append (IsPairNumbered all) kept (flat_map (pair_at first variables) found) r.numbered (picked_numbered all first variables found numbered s.numbered);
}
  where
    reached : List ℕ
    reached = flat_map (later_places_at places marks expressions n) (row_at table first.name)

    whole : found ≡ passing (is_partner all before first) (n + 1) (drop (n + 1) variables)
    whole = same_rising found (passing (is_partner all before first) (n + 1) (drop (n + 1) variables)) rising (passing_rise (is_partner all before first) (n + 1) (drop (n + 1) variables))
        (λ k m. found_from all before table marks expressions places variables n first s k (contains_in k reached ((same k).0 (in_contains k found m))))
        (λ k m. contains_in k found ((same k).1 (in_contains k reached (found_to all before table marks expressions places variables n first s k m))))

    numbered : IsNumbered all first
    numbered = All-contains (IsNumbered all) variables first s.numbered (in_contains first variables (get_in first variables n s.there))

-- what is known of the items before an assertion is what a question about active pairs rests on
pub reads_earlier : (all : List (List ℕ)) (before : List Said) (earlier : Earlier) → KnowsEarlier all before earlier → ReadsPairs all before earlier.pairs.now earlier.blocks.now
reads_earlier all before earlier known = record { distinct = known.known.distinct; sound = known.sound; knows = known.pairs; marks = known.marks }

-- ---- sorted, and each once
pub same_once : (numbers sorted once : List ℕ) → IsPermutation numbers sorted → IsFiltered (DiffersFromLast eqb) [] sorted once → (k : ℕ) → Contains once k ↔ Contains numbers k
same_once numbers sorted once moved f k = (
  λ m. Contains-permutation sorted numbers k (IsPermutation-sym numbers sorted moved) (Contains-from_dedup eqb sorted k (subst (λ w. Contains w k) (dedup_is eqb sorted once f) m)),
  λ m. subst (λ w. Contains w k) (sym (dedup_is eqb sorted once f)) (Contains-dedup_nat sorted k (Contains-permutation numbers sorted k moved m)),
)
