-- The active pairs are those after the items up to the last active `$d`, and the lists that are made of them.
use Rattle.std.proofs.lemmas.{Bool.{or_right, false≢true, Decides.{eqb_tells}}, Grind.{common_steps, flat_map-append}, Simd.{map-map}}
use Rattle.std.proofs.lemmas.List.{map-append, take-append-le, drop-append-le, take-append-drop}
use Rattle.std.proofs.lemmas.List.Elements.{Contains-append_right, Contains-append_cases, All-nil, All-append, All-map, All-contains, All-contains_itself}
use Rattle.std.proofs.lemmas.List.{Sorted.{IsPermutation-sym, Contains-permutation}, Filters.{dedup_is}, Kept.{Contains-dedup, Contains-from_dedup}}
use Rattle.std.proofs.lemmas.Option.{get_or_from_slice_get, slice_get_within, slice_get-get_or, none-some}
use Rattle.std.proofs.Common.{◌≡◌, ℕ, suc, ◌-◌, ◌<◌, ◌≤◌, Bool, true, false, cond, ◌&&◌, Option, Some, None, List, [], ◌∷◌, ◌++◌, length, All, Contains, Decides, ◌⊎◌, ◌↔◌, leb, map, flat_map, take}
use Rattle.std.{proofs.{Common.{drop, slice_get, get_or, nat_eq, refl, sym, ◌∙◌, ap, subst, append-nil, arith, length-take-le, inl, inr}, Math.Bool.{beq}}, specs.Cmp.{decided}}
use Rattle.std.specs.List.{Sorted.{IsPermutation}, Retain.{IsFiltered, DiffersFromLast}}
use Rattle.mm_frame.proofs.lemmas.scope.{Facts.{sound_front}, ActiveBySplit.{stays_join, stays_front}}
use Rattle.mm_frame.proofs.lemmas.{frames.HypothesisNumbers.{front_below, to_active_number, from_active_number, active_numbers_rise, same_rising}, pairs.SharedPairs.{read_each, HasEitherWay}}
use Rattle.mm_frame.proofs.lemmas.pairs.{FramePairs.{each_pair}, ActivePairLemmas.{pairs_at, flat_same, active_pairs_by_numbers}}
use Rattle.mm_frame.proofs.lemmas.lists.{Members.{get_join, In, in_left, in_cases, in_get, get_in, in_contains, contains_in, in_map, from_map, front_get}, Rising.{rising_front}}
use Rattle.mm_frame.{proofs.lemmas.base.BaseLemmas.{rows_more}, specs.{declared.pair_lists.PairLists.{PairLists}, Language.{Scope.{stays, active_numbers}, Sound.{AreSound, sound_items}}}}
use Rattle.mm_frame.specs.{Language.{Framing.{expression, pairs_of, active_pairs}, Answering.{AreRows, is_told_proof}}, Code.LastItems.{is_active_at, is_disjoint_item, IsRising}}
use Rattle.mm_frame.specs.Code.{KeptSymbols.{AreSymbols, AreNumbered}, KeptPairLists.{pairs_among, with_low_first, IsList, listed_for, IsListFor, AreListsFor, KeepsLists, AreFrontNumbers}}
use Rattle.mm_frame.specs.Code.{KeptLists.{item_list}, KeptSortedLists.{HasEach, HasSame, IsThere}, KeptAssertions.{TellsPairs}}
use native.Mathlib.Decide.{dec_lt}
use Rattle.mm_machine.specs.{declared.symbol.NumberedSymbol.{NumberedSymbol}, Language.Frame.{Symbol, ArePair, AreSamePairs}}
use Rattle.mm_machine.specs.Language.NumberedSymbols.{symbol_of, symbols_of, pair_of, kept_pairs, IsNumbered, IsPairNumbered, ArePairsRead, AreSamePairsRead, AreInOrder}
use Rattle.mm_statement.specs.Language.Item.{Said, passed, is_labelled, is_kind, Disjoint}

-- the last of rising numbers is the greatest
at_most_last : (numbers : List ℕ) (n : ℕ) → IsRising numbers → slice_get numbers (length numbers - 1) ≡ Some n → (m : ℕ) → In m numbers → m ≤ n
at_most_last numbers n r e m h =
    let last = length numbers - 1 in
    let g = in_get m numbers h in
    let w = slice_get_within numbers g.0 m g.1 in
    let first : get_or numbers g.0 0 ≡ m = get_or_from_slice_get numbers g.0 m 0 g.1 in
    let second : get_or numbers last 0 ≡ n = get_or_from_slice_get numbers last n 0 e in
    elim (dec_lt g.0 last) [
      | yes k ↦ (let l : get_or numbers g.0 0 < get_or numbers last 0 = r g.0 last 0 k (omega arith) in omega arith)
      | no k ↦ (let z : g.0 ≡ last = omega arith in let same : get_or numbers g.0 0 ≡ get_or numbers last 0 = ap (λ j. get_or numbers j 0) z in omega arith)
    ]

-- what has no last one is empty
pub none_last : {X : Type 0} (xs : List X) → slice_get xs (length xs - 1) ≡ None → xs ≡ []
none_last [] e = refl
none_last (x ∷ xs) e = absurd (none-some (get_or (x ∷ xs) (length (x ∷ xs) - 1) x) (sym e ∙ slice_get-get_or (x ∷ xs) (length (x ∷ xs) - 1) x (omega arith)))

-- a number of an active item of a beginning, after which the items close no block, is one of all items
number_of_front : (test : Said → Bool) (a d : List Said) → stays d ≡ true → (m : ℕ) → In m (active_numbers test a) → In m (active_numbers test (a ++ d))
number_of_front test a d s m h =
    let r = from_active_number test a m h in
    let w = slice_get_within a m r.0 r.1 in
    let stayed : is_active_at (a ++ d) m ≡ true = ap stays (drop-append-le (suc m) a d (omega arith)) ∙ stays_join (drop (suc m) a) d r.2 s in
    to_active_number test (a ++ d) m r.0 (get_join a d m r.0 r.1) stayed r.3

-- the first numbers of the active items are those of the active ones among the items up to the last of them
pub front_numbers : (test : Said → Bool) (before : List Said) (numbers rest : List ℕ) (n : ℕ) → numbers ++ rest ≡ active_numbers test before → slice_get numbers (length numbers - 1) ≡ Some n → active_numbers test (take (suc n) before) ≡ numbers
front_numbers test before numbers rest n w e =
    let rising : IsRising numbers = rising_front numbers rest (subst IsRising (sym w) (active_numbers_rise test before)) in
    same_rising (active_numbers test a) numbers (active_numbers_rise test a) rising
    (λ m h. let r = from_active_number test before n (subst (In n) w (in_left n numbers rest last)) in let here = from_active_number test a m h in
    let within = slice_get_within a m here.0 here.1 in let reached = slice_get_within before n r.0 r.1 in
    let count = length-take-le (suc n) before (omega arith) in
    let all = subst (λ w. In m (active_numbers test w)) (take-append-drop (suc n) before) (number_of_front test a d r.2 m h) in
    to_by m (omega arith) (in_cases m numbers rest (subst (In m) (sym w) all)))
    (λ m h. let r = from_active_number test before m (subst (In m) w (in_left m numbers rest h)) in let l = at_most_last numbers n rising e m h in
    let there = front_get before (suc n) m r.0 (omega arith) r.1 in let within = slice_get_within a m r.0 there in
    let stayed : stays (drop (suc m) a ++ d) ≡ true = ap stays
    (sym (drop-append-le (suc m) a d (omega arith)) ∙ ap (drop (suc m)) (take-append-drop (suc n) before)) ∙ r.2 in
    to_active_number test a m r.0 there (stays_front (drop (suc m) a) d stayed) r.3)
  where
    a : List Said
    a = take (suc n) before

    d : List Said
    d = drop (suc n) before

    last : In n numbers
    last = get_in n numbers (length numbers - 1) e

    to_by : (m : ℕ) → m < suc n → In m numbers ⊎ In m rest → In m numbers
    to_by m l (inl h) = h
    to_by m l (inr h) = let k = front_below numbers rest n m (subst IsRising (sym w) (active_numbers_rise test before)) last h in absurd (omega arith)

-- the active pairs after this many of the items are those of their active `$d`
pub front_pairs : (before : List Said) (numbers : List ℕ) (count : ℕ) → AreSound before → AreFrontNumbers before numbers count → active_pairs (take count before) ≡ flat_map (pairs_at before) numbers
front_pairs before numbers count h front =
    let a = take count before in
    let d = drop count before in
    active_pairs_by_numbers a (sound_front (take count before) (drop count before) (subst AreSound (sym (take-append-drop count before)) h))
    ∙ (flat_same (pairs_at a) (pairs_at (a ++ d)) (active_numbers is_disjoint_item a)
    (λ m k. (let r = from_active_number is_disjoint_item a m k in let w = slice_get_within a m r.0 r.1 in
    let there = get_or_from_slice_get (a ++ d) m r.0 passed (get_join a d m r.0 r.1) in
    λ i. pairs_of (expression (sym (take-append-le m a d (omega arith)) i) ((get_or_from_slice_get a m r.0 passed r.1 ∙ sym there) i)))))
    ∙ (λ i. flat_map (pairs_at ((take-append-drop count before) i)) (sym front.active i))

-- so the items up to the last active `$d` have the active pairs
pub whole_front : (before : List Said) (numbers : List ℕ) (count : ℕ) → AreSound before → numbers ≡ active_numbers is_disjoint_item before → AreFrontNumbers before numbers count → active_pairs (take count before) ≡ active_pairs before
whole_front before numbers count h e front = front_pairs before numbers count h front ∙ ap (flat_map (pairs_at before)) e ∙ sym (active_pairs_by_numbers before h)

-- the items up to the last of the first active `$d`, and none if there is none
abbrev pub number_last : List ℕ → Option ℕ
number_last numbers = slice_get numbers (length numbers - 1)

-- the number of an active item is that of something
pub number_there : (before : List Said) (numbers rest : List ℕ) (n : ℕ) → numbers ++ rest ≡ active_numbers is_disjoint_item before → number_last numbers ≡ Some n → n < length before
number_there before numbers rest n e last =
    let r = from_active_number is_disjoint_item before n (subst (In n) e (in_left n numbers rest (get_in n numbers (length numbers - 1) last))) in
    slice_get_within before n r.0 r.1

-- each symbol with each later one, in turn, and the pairs that are read of these
abbrev in_turn : List NumberedSymbol → List (NumberedSymbol × NumberedSymbol)
in_turn [] = []
in_turn (x ∷ xs) = map (λ y. (x, y)) xs ++ in_turn xs

with_each : (all : List (List ℕ)) (x : NumberedSymbol) (xs : List NumberedSymbol) → kept_pairs all (map (λ y. (x, y)) xs) ≡ map (λ y. (symbol_of all x, y)) (symbols_of all xs)
with_each all x [] = refl
with_each all x (y ∷ xs) = ap (λ w. (symbol_of all x, symbol_of all y) ∷ w) (with_each all x xs)

among_read : (all : List (List ℕ)) (xs : List NumberedSymbol) → kept_pairs all (in_turn xs) ≡ pairs_of (symbols_of all xs)
among_read all [] = refl
among_read all (x ∷ xs) = map-append (pair_of all) (map (λ y. (x, y)) xs) (in_turn xs) ∙ (λ i. with_each all x xs i ++ among_read all xs i)

among_numbered : (all : List (List ℕ)) (xs : List NumberedSymbol) → All (IsNumbered all) xs → All (IsPairNumbered all) (in_turn xs)
among_numbered all [] h = All-nil (IsPairNumbered all)
among_numbered all (x ∷ xs) h =
    let rest : All (IsNumbered all) xs = λ k d l. h (suc k) d (omega (arith, l)) in
    All-append (IsPairNumbered all) (map (λ y. (x, y)) xs) (in_turn xs) (All-map (IsPairNumbered all) (λ y. (x, y)) xs (λ k d l. (h 0 x (omega arith), rest k d l))) (among_numbered all xs rest)

-- the pairs of what is kept for the active `$d` are the active pairs
abbrev in_turn_at : List (List NumberedSymbol) → ℕ → List (NumberedSymbol × NumberedSymbol)
in_turn_at expressions n = in_turn (item_list expressions n)

all_read : (all : List (List ℕ)) (expressions : List (List NumberedSymbol)) (numbers : List ℕ) → kept_pairs all (flat_map (in_turn_at expressions) numbers) ≡ flat_map (λ n. pairs_of (symbols_of all (item_list expressions n))) numbers
all_read all expressions [] = refl
all_read all expressions (n ∷ numbers) =
    map-append (pair_of all) (in_turn_at expressions n) (flat_map (in_turn_at expressions) numbers) ∙ (λ i. among_read all (item_list expressions n) i ++ all_read all expressions numbers i)

all_numbered : (all : List (List ℕ)) (expressions : List (List NumberedSymbol)) (numbers : List ℕ) → AreNumbered all expressions → All (IsPairNumbered all) (flat_map (in_turn_at expressions) numbers)
all_numbered all expressions [] h = All-nil (IsPairNumbered all)
all_numbered all expressions (n ∷ numbers) h =
    All-append (IsPairNumbered all) (in_turn_at expressions n) (flat_map (in_turn_at expressions) numbers) (among_numbered all (item_list expressions n) (h n)) (all_numbered all expressions numbers h)

-- these are numbers of `$d`
abbrev AreDisjoint : List Said → List ℕ → Type 0
AreDisjoint before numbers = (n : ℕ) → In n numbers → (x : Said) × (slice_get before n ≡ Some x) × (is_kind Disjoint x.kind ≡ true)

pairs_kept : (all : List (List ℕ)) (before : List Said) (expressions : List (List NumberedSymbol)) (numbers : List ℕ) → AreSymbols all before expressions → AreDisjoint before numbers
    → ArePairsRead all (flat_map (pairs_at before) numbers) (flat_map (in_turn_at expressions) numbers)
pairs_kept all before expressions numbers a are = record {
  pairs = all_read all expressions numbers ∙ flat_same read_at (pairs_at before) numbers same;
  numbered = all_numbered all expressions numbers a.numbered;
}
  where
    read_at : ℕ → List (Symbol × Symbol)
    read_at n = pairs_of (symbols_of all (item_list expressions n))

    same : (n : ℕ) → In n numbers → read_at n ≡ pairs_at before n
    same n k =
        let r = are n k in
        ap pairs_of (a.each n r.0 r.1 (or_right (is_labelled (r.0).kind) (is_kind Disjoint (r.0).kind) r.2) ∙ ap (expression (take n before)) (sym (get_or_from_slice_get before n r.0 passed r.1)))

-- the pairs of a list with the lower number first, in whatever order and whatever often, are the same
turned_or_not : (b : Bool) (p q : NumberedSymbol × NumberedSymbol) → cond b p (p.1, p.0) ≡ q → (p ≡ q) ⊎ (p ≡ (q.1, q.0))
turned_or_not true p q e = inl e
turned_or_not false p q e = inr (ap (λ (w : NumberedSymbol × NumberedSymbol). (w.1, w.0)) e)

same_read : (all : List (List ℕ)) (said : List (Symbol × Symbol)) (raw kept : List (NumberedSymbol × NumberedSymbol)) → ArePairsRead all said raw
    → ((p : NumberedSymbol × NumberedSymbol) → In p kept ↔ In p (map with_low_first raw)) → AreSamePairsRead all said kept
same_read all said raw kept read same = record {
  pairs = subst (AreSamePairs (kept_pairs all kept)) read.pairs (λ x y. (read_each all raw kept from x y, read_each all kept raw to x y));
  numbered =
      λ k d l. (let r = from_map with_low_first (get_or kept k d) raw
      ((same (get_or kept k d)).0 (contains_in (get_or kept k d) kept (All-contains_itself kept k d l))) in
      subst (IsPairNumbered all) r.2
      (numbered_by (leb (r.0).0.name (r.0).1.name) r.0 (All-contains (IsPairNumbered all) raw r.0 read.numbered (in_contains r.0 raw r.1))));
}
  where
    from : HasEitherWay raw kept
    from p c =
        let t = from_map with_low_first p raw ((same p).0 (contains_in p kept c)) in
        elim (turned_or_not (leb (t.0).0.name (t.0).1.name) t.0 p t.2) [
          | inl e ↦ inl (in_contains p raw (subst (λ w. In w raw) e t.1))
          | inr e ↦ inr (in_contains (p.1, p.0) raw (subst (λ w. In w raw) e t.1))
        ]

    to_by : (b : Bool) (p : NumberedSymbol × NumberedSymbol) → In (cond b p (p.1, p.0)) kept → Contains kept p ⊎ Contains kept (p.1, p.0)
    to_by true p h = inl (in_contains p kept h)
    to_by false p h = inr (in_contains (p.1, p.0) kept h)

    to : HasEitherWay kept raw
    to p c = to_by (leb p.0.name p.1.name) p ((same (with_low_first p)).1 (in_map with_low_first p raw (contains_in p raw c)))

    numbered_by : (b : Bool) (p : NumberedSymbol × NumberedSymbol) → IsPairNumbered all p → IsPairNumbered all (cond b p (p.1, p.0))
    numbered_by true p n = n
    numbered_by false p n = (n.1, n.0)

-- the test of two pairs
abbrev is_same_symbol : NumberedSymbol → NumberedSymbol → Bool
is_same_symbol x y = nat_eq x.name y.name && beq x.variable y.variable

abbrev pub is_same_pair : NumberedSymbol × NumberedSymbol → NumberedSymbol × NumberedSymbol → Bool
is_same_pair p q = is_same_symbol p.0 q.0 && is_same_symbol p.1 q.1

pub symbol_decides : (x y : NumberedSymbol) → Decides (is_same_symbol x y) (x ≡ y)
symbol_decides x y = grind (arith, common_steps, beq) steps 200000

pair_decides : (p q : NumberedSymbol × NumberedSymbol) → Decides (is_same_pair p q) (p ≡ q)
pair_decides p q = grind (arith, common_steps, symbol_decides) steps 200000

-- sorted, and each once
pub sorted_once : (listed sorted kept : List (NumberedSymbol × NumberedSymbol)) → IsPermutation listed sorted → IsFiltered (DiffersFromLast is_same_pair) [] sorted kept → HasSame listed kept
sorted_once listed sorted kept moved filtered = (
  λ p h. subst (λ w. Contains w p) (sym (dedup_is is_same_pair sorted kept filtered))
      (Contains-dedup (decided is_same_pair pair_decides) (λ a b. (pair_decides a b).0) sorted p (Contains-permutation listed sorted p moved h)),
  λ p h. Contains-permutation sorted listed p (IsPermutation-sym listed sorted moved)
      (Contains-from_dedup is_same_pair sorted p (subst (λ w. Contains w p) (dedup_is is_same_pair sorted kept filtered) h)),
)

-- what is collected for the active `$d` are these pairs, with the lower number first
low_among : (xs : List NumberedSymbol) → pairs_among xs ≡ map with_low_first (in_turn xs)
low_among [] = refl
low_among (x ∷ xs) = (λ i. sym (map-map with_low_first (λ y. (x, y)) xs) i ++ low_among xs i) ∙ sym (map-append with_low_first (map (λ y. (x, y)) xs) (in_turn xs))

low_all : (expressions : List (List NumberedSymbol)) (numbers : List ℕ) → flat_map (λ n. pairs_among (item_list expressions n)) numbers ≡ map with_low_first (flat_map (in_turn_at expressions) numbers)
low_all expressions [] = refl
low_all expressions (n ∷ numbers) = (λ i. low_among (item_list expressions n) i ++ low_all expressions numbers i) ∙ sym (map-append with_low_first (in_turn_at expressions n) (flat_map (in_turn_at expressions) numbers))

low_read : (all : List (List ℕ)) (before : List Said) (expressions : List (List NumberedSymbol)) (numbers : List ℕ) → AreSymbols all before expressions → AreDisjoint before numbers
    → AreSamePairsRead all (flat_map (pairs_at before) numbers) (flat_map (λ n. pairs_among (item_list expressions n)) numbers)
low_read all before expressions numbers a are =
    let listed = flat_map (λ n. pairs_among (item_list expressions n)) numbers in
    let low = low_all expressions numbers in
    same_read all (flat_map (pairs_at before) numbers) (flat_map (in_turn_at expressions) numbers) listed (pairs_kept all before expressions numbers a are) (λ p. (λ h. subst (In p) low h, λ h. subst (In p) (sym low) h))

pub active_read : (all : List (List ℕ)) (before : List Said) (expressions : List (List NumberedSymbol)) (numbers : List ℕ) → AreSymbols all before expressions → ((n : ℕ) → In n numbers → In n (active_numbers is_disjoint_item before))
    → AreSamePairsRead all (flat_map (pairs_at before) numbers) (flat_map (λ n. pairs_among (item_list expressions n)) numbers)
active_read all before expressions numbers a active = low_read all before expressions numbers a (λ n h. let r = from_active_number is_disjoint_item before n (active n h) in (r.0, r.1, r.3))

pub front_read : (all : List (List ℕ)) (before : List Said) (expressions : List (List NumberedSymbol)) (numbers : List ℕ) (count : ℕ) → AreSound before → AreSymbols all before expressions → AreFrontNumbers before numbers count
    → AreSamePairsRead all (active_pairs (take count before)) (flat_map (λ n. pairs_among (item_list expressions n)) numbers)
front_read all before expressions numbers count h a front =
    subst (λ w. AreSamePairsRead all w (flat_map (λ n. pairs_among (item_list expressions n)) numbers)) (sym (front_pairs before numbers count h front))
    (low_read all before expressions numbers a
    (λ n k. let r = from_active_number is_disjoint_item (take count before) n (subst (In n) front.active k) in
    (r.0, subst (λ w. slice_get w n ≡ Some r.0) (take-append-drop count before) (get_join (take count before) (drop count before) n r.0 r.1), r.3)))

-- the pairs after this many of the items, with those of the later `$d`, are the active ones
pub front_and_own : (before : List Said) (outer own : List ℕ) (count : ℕ) → AreSound before → outer ++ own ≡ active_numbers is_disjoint_item before
    → AreFrontNumbers before outer count → active_pairs (take count before) ++ flat_map (pairs_at before) own ≡ active_pairs before
front_and_own before outer own count h e front =
    ap (λ w. w ++ flat_map (pairs_at before) own) (front_pairs before outer count h front) ∙ sym (flat_map-append (pairs_at before) outer own) ∙ ap (flat_map (pairs_at before)) e ∙ sym (active_pairs_by_numbers before h)

-- the same holds for those of the first of these `$d`, and the ones of the others
pub front_and_more : (before : List Said) (outer done own : List ℕ) (count front : ℕ) → AreSound before → done ++ own ≡ outer → AreFrontNumbers before outer count → AreFrontNumbers before done front
    → active_pairs (take front before) ++ flat_map (pairs_at before) own ≡ active_pairs (take count before)
front_and_more before outer done own count front h e all first =
    ap (λ w. w ++ flat_map (pairs_at before) own) (front_pairs before done front h first) ∙ sym (flat_map-append (pairs_at before) done own) ∙ ap (flat_map (pairs_at before)) e ∙ sym (front_pairs before outer count h all)

-- pairs of two lists one after another
pair_left : (ps qs : List (Symbol × Symbol)) (x y : Symbol) → ArePair ps x y → ArePair (ps ++ qs) x y
pair_left ps qs x y h = grind (arith, common_steps) steps 200000

pair_right : (ps qs : List (Symbol × Symbol)) (x y : Symbol) → ArePair qs x y → ArePair (ps ++ qs) x y
pair_right ps qs x y (inl c) = inl (Contains-append_right ps qs (x, y) c)
pair_right ps qs x y (inr c) = inr (Contains-append_right ps qs (y, x) c)

-- a list with the same pairs reads the same
pub same_members : (all : List (List ℕ)) (said : List (Symbol × Symbol)) (xs ys : List (NumberedSymbol × NumberedSymbol)) → HasSame xs ys → AreSamePairsRead all said xs → AreSamePairsRead all said ys
same_members all said xs ys same read = record {
  pairs =
      λ x y. (
        λ h. (read.pairs x y).0 (read_each all xs ys (λ p c. inl (same.1 p c)) x y h),
        λ h. read_each all ys xs (λ p c. inl (same.0 p c)) x y ((read.pairs x y).1 h),
      );
  numbered = λ k d l. All-contains (IsPairNumbered all) xs (get_or ys k d) read.numbered (same.1 (get_or ys k d) (All-contains_itself ys k d l));
}

-- two lists one after another
both_read : (all : List (List ℕ)) (said added : List (Symbol × Symbol)) (base own : List (NumberedSymbol × NumberedSymbol)) → AreSamePairsRead all said base → AreSamePairsRead all added own → AreSamePairsRead all (said ++ added) (own ++ base)
both_read all said added base own b o = record {
  pairs = subst (λ w. AreSamePairs w (said ++ added)) (sym (map-append (pair_of all) own base)) (λ x y. (
    each_pair (kept_pairs all own ++ kept_pairs all base) (said ++ added)
        (λ x y c. elim (Contains-append_cases (kept_pairs all own) (kept_pairs all base) (x, y) c) [
          | inl a ↦ pair_right said added x y ((o.pairs x y).0 (inl a))
          | inr a ↦ pair_left said added x y ((b.pairs x y).0 (inl a))
        ]) x y,
    each_pair (said ++ added) (kept_pairs all own ++ kept_pairs all base) (λ x y c. elim (Contains-append_cases said added (x, y) c) [
      | inl a ↦ pair_right (kept_pairs all own) (kept_pairs all base) x y ((b.pairs x y).1 (inl a))
      | inr a ↦ pair_left (kept_pairs all own) (kept_pairs all base) x y ((o.pairs x y).1 (inl a))
    ]) x y,
  ));
  numbered = All-append (IsPairNumbered all) own base o.numbered b.numbered;
}

pub joined_read : (all : List (List ℕ)) (said added : List (Symbol × Symbol)) (base own kept : List (NumberedSymbol × NumberedSymbol))
    → AreSamePairsRead all said base → AreSamePairsRead all added own → HasSame (own ++ base) kept → AreSamePairsRead all (said ++ added) kept
joined_read all said added base own kept b o same = same_members all (said ++ added) (own ++ base) kept same (both_read all said added base own b o)

-- a list that has each of the others is of both
pub shared_same : (base own : List (NumberedSymbol × NumberedSymbol)) → HasEach base own → HasSame (own ++ base) base
shared_same base own each = (λ p h. elim (Contains-append_cases own base p h) [ inl a ↦ each p a | inr b ↦ b ], λ p h. Contains-append_right own base p h)

-- a list that is there stays there
pub list_stays : (all : List (List ℕ)) (old new : PairLists) (k : ℕ) (pairs : List (Symbol × Symbol)) → KeepsLists old new → IsList all old k pairs → IsList all new k pairs
list_stays all old new k pairs keeps is = record {
  list = is.list;
  there = ap (λ w. slice_get w k) keeps.whole ∙ get_join old.lists keeps.more k is.list is.there;
  read = is.read;
  order = is.order;
}

-- the lists that are made stay right after more items
pub lists_more : (all : List (List ℕ)) (before later : List Said) (lists : PairLists) → AreListsFor all before lists → AreListsFor all (before ++ later) lists
lists_more all before later lists m count k e =
    let r = m count k e in
    grind (arith, common_steps, take-append-le count before later r.within) steps 200000

-- one more list
pub lists_one_more : (all : List (List ℕ)) (before : List Said) (old new : PairLists) (count k : ℕ) → KeepsLists old new → AreListsFor all before old → count ≤ length before → IsList all new k (active_pairs (take count before))
    → ((other : ℕ) → listed_for new other ≡ cond (nat_eq count other) (Some k) (listed_for old other)) → AreListsFor all before new
lists_one_more all before old new count k keeps by_count within is told other j e = by_test (nat_eq count other) refl
  where
    this : other ≡ count → k ≡ j → IsListFor all before new other j
    this z y = subst (λ c. IsListFor all before new c j) (sym z) (record { within = within; list = subst (λ i. IsList all new i (active_pairs (take count before))) y is })

    by_test : (b : Bool) → nat_eq count other ≡ b → IsListFor all before new other j
    by_test true t = elim (eqb_tells count other) [
      | inl p ↦ this (sym p.1) (grind (arith, common_steps, sym (ap (λ b. cond b (Some k) (listed_for old other)) t) ∙ sym (told other) ∙ e) steps 200000)
      | inr p ↦ absurd (false≢true (sym p.0 ∙ t))
    ]
    by_test false t =
        let r = by_count other j (sym (ap (λ b. cond b (Some k) (listed_for old other)) t) ∙ sym (told other) ∙ e) in
        record { within = r.within; list = list_stays all old new j (active_pairs (take other before)) keeps r.list }

-- the list with this number is of pairs with this reading
pub is_list : (all : List (List ℕ)) (lists : PairLists) (k : ℕ) (kept : List (NumberedSymbol × NumberedSymbol)) (pairs : List (Symbol × Symbol)) → IsThere lists.lists k kept
    → AreSamePairsRead all pairs kept → AreInOrder kept → IsList all lists k pairs
is_list all lists k kept pairs there read order = record { list = there.list; there = there.there; read = subst (AreSamePairsRead all pairs) (sym there.same) read; order = subst AreInOrder (sym there.same) order }

-- the rows of numbers of lists stay right with more lists
pub pairs_stay : (all : List (List ℕ)) (said : List Said) (old new : PairLists) (numbers : List (Option ℕ)) → KeepsLists old new → AreRows (TellsPairs all old) said numbers → AreRows (TellsPairs all new) said numbers
pairs_stay all said old new numbers keeps rows = record {
  count = rows.count;
  each = λ n row e. let told = rows.each n row e in record { some = told.some; list = λ k q. list_stays all old new k (active_pairs (sound_items (take n said))) keeps (told.list k q) };
}

pub pairs_more : (all : List (List ℕ)) (said : List Said) (item : Said) (old new : PairLists) (numbers : List (Option ℕ)) (number : Option ℕ)
    → KeepsLists old new → AreRows (TellsPairs all old) said numbers → TellsPairs all new (sound_items said) item number
    → AreRows (TellsPairs all new) (said ++ item ∷ []) (numbers ++ number ∷ [])
pairs_more all said item old new numbers number keeps rows told = rows_more (TellsPairs all new) said item numbers number (pairs_stay all said old new numbers keeps rows) told

pub keeps_all : (lists : PairLists) → KeepsLists lists lists
keeps_all lists = record { more = []; whole = sym (append-nil lists.lists) }

pub no_number : (all : List (List ℕ)) (lists : PairLists) (before : List Said) (item : Said) → false ≡ is_told_proof before item → TellsPairs all lists before item None
no_number all lists before item e = record { some = e; list = λ k q. absurd (none-some k q) }

pub some_number : (all : List (List ℕ)) (lists : PairLists) (before : List Said) (item : Said) (k : ℕ) → true ≡ is_told_proof before item → IsList all lists k (active_pairs before) → TellsPairs all lists before item (Some k)
some_number all lists before item k e is = grind (arith, common_steps) steps 200000
