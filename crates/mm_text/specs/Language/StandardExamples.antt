-- Names of the standard library that could be read in more than one way: what each of them gives, also of nothing and past the end.
use Rattle.std.specs.Prelude.{◌≡◌, ◌<◌, ℕ, ◌+◌, ◌-◌, ◌==◌, pred, true, false, ltb, leb, nat_le, List, [], ◌∷◌, codes, decimal}
use Rattle.std.specs.Prelude.{All, Any, AllPairs, Contains, count_by, drop, find, position, replicate, sum, take}
use Rattle.std.specs.Prelude.{slice_get, slice_index_or, slice_range, slice_set, Option, Some, None, IfSome, option_to_list, unwrap_or}
use Rattle.std.specs.List.{AllByRecursion, AllZip, after_first, after_last, before_first, concat, enumerate_from, filter_map, flat_map, insert}
use Rattle.std.specs.List.{join_with_byte, list_all, list_any, prefix_len, range_with_len, remove, sum_by}
use Rattle.std.specs.Option.{option_map}
use Rattle.std.specs.Str.{bytes_eq}
use Rattle.std.specs.Io.KnownBytes.{Appends, Consumes, IsAtEnd, Keeps}

-- `pred` of 0 is 0, and a difference is 0 if more is taken away than is there. `nat_le` and `leb` are at most, and `ltb` is less than.
abbrev pub NumbersEndAtZero : Type 0
NumbersEndAtZero =
    (pred 3 ≡ 2) × (pred 0 ≡ 0) × (3 - 2 ≡ 1) × (2 - 3 ≡ 0) × (nat_le 3 3 ≡ true) × (leb 3 3 ≡ true) × (leb 4 3 ≡ false) × (ltb 3 3 ≡ false) × (ltb 2 3 ≡ true)

-- `decimal` gives the digits of a number of at most 64 digits in base ten, as bytes, without zeros in front; those of 0 are one digit.
abbrev pub DigitsAreDecimal : Type 0
DigitsAreDecimal = (decimal 0 ≡ 48 ∷ []) × (decimal 120 ≡ 49 ∷ 50 ∷ 48 ∷ [])

-- `codes` gives the bytes of a text in quotes, in which \n is one byte, 10. `bytes_eq` is the test that two lists of bytes are the same: of
-- a list and a longer one it is false.
abbrev pub TextsAreBytes : Type 0
TextsAreBytes = (codes "$c\n" ≡ 36 ∷ 99 ∷ 10 ∷ []) × (bytes_eq (codes "ab") (codes "ab") ≡ true) × (bytes_eq (codes "ab") (codes "abc") ≡ false)

-- `position` gives the number of the first member that passes a test, from 0, and `find` gives this member; both are None if none passes.
abbrev pub FirstPasses : Type 0
FirstPasses =
    (position (λ n. nat_le 6 n) (5 ∷ 7 ∷ 8 ∷ []) ≡ Some 1) × (position (λ n. nat_le 9 n) (5 ∷ 7 ∷ 8 ∷ []) ≡ None)
    × (find (λ n. nat_le 6 n) (5 ∷ 7 ∷ 8 ∷ []) ≡ Some 7) × (find (λ n. nat_le 9 n) (5 ∷ 7 ∷ 8 ∷ []) ≡ None)

-- `before_first` gives the members before the first that passes a test, `after_first` those after it, and `after_last` those after the last
-- that passes it. If none passes, the first and the third of these are the whole list, and the second is empty.
abbrev pub ListsAreParted : Type 0
ListsAreParted =
    (before_first (λ n. n == 0) (5 ∷ 0 ∷ 6 ∷ 0 ∷ 7 ∷ []) ≡ 5 ∷ []) × (before_first (λ n. n == 0) (5 ∷ 6 ∷ []) ≡ 5 ∷ 6 ∷ [])
    × (after_first (λ n. n == 0) (5 ∷ 0 ∷ 6 ∷ 0 ∷ 7 ∷ []) ≡ 6 ∷ 0 ∷ 7 ∷ []) × (after_first (λ n. n == 0) (5 ∷ 6 ∷ []) ≡ [])
    × (after_last (λ n. n == 0) (5 ∷ 0 ∷ 6 ∷ 0 ∷ 7 ∷ []) ≡ 7 ∷ []) × (after_last (λ n. n == 0) (5 ∷ 6 ∷ []) ≡ 5 ∷ 6 ∷ [])

-- `count_by` counts the members that pass a test, and `prefix_len` only those before the first that fails it. `sum_by` adds up what a
-- function gives of each member, and `sum` the members.
abbrev pub MembersAreCounted : Type 0
MembersAreCounted =
    (count_by (λ n. n == 7) (7 ∷ 7 ∷ 5 ∷ 7 ∷ []) ≡ 3) × (prefix_len (λ n. n == 7) (7 ∷ 7 ∷ 5 ∷ 7 ∷ []) ≡ 2)
    × (sum_by (λ n. n + 1) (5 ∷ 7 ∷ []) ≡ 14) × (sum (5 ∷ 7 ∷ []) ≡ 12) × (sum [] ≡ 0)

-- `slice_get` gives the member with a number, from 0, or None past the end. `slice_index_or` gives the member alone, and past the end its
-- last argument.
abbrev pub MembersAreNumbered : Type 0
MembersAreNumbered =
    (a b d : ℕ)
    → (slice_get (a ∷ b ∷ []) 1 ≡ Some b) × (slice_get (a ∷ b ∷ []) 2 ≡ None) × (slice_index_or (a ∷ b ∷ []) 1 d ≡ b) × (slice_index_or (a ∷ b ∷ []) 2 d ≡ d)

-- `take` gives the first members, as many as it says, and `drop` the others. `slice_range` gives those from one number to before another
-- one. Past the end there are none, and there are none if the second number is not larger than the first.
abbrev pub RangesStopAtEnd : Type 0
RangesStopAtEnd =
    (a b c : ℕ)
    → (take 2 (a ∷ b ∷ c ∷ []) ≡ a ∷ b ∷ []) × (take 9 (a ∷ b ∷ c ∷ []) ≡ a ∷ b ∷ c ∷ []) × (drop 2 (a ∷ b ∷ c ∷ []) ≡ c ∷ [])
    × (drop 9 (a ∷ b ∷ c ∷ []) ≡ []) × (slice_range (a ∷ b ∷ c ∷ []) 1 2 ≡ b ∷ []) × (slice_range (a ∷ b ∷ c ∷ []) 1 9 ≡ b ∷ c ∷ [])
    × (slice_range (a ∷ b ∷ c ∷ []) 2 1 ≡ [])

-- `insert` puts a member before the one with a number, or behind all others past the end. `slice_set` puts it in the place of that one, and
-- `remove` takes that one out; past the end these two change nothing.
abbrev pub MembersAreChanged : Type 0
MembersAreChanged =
    (a b d : ℕ)
    → (insert (a ∷ b ∷ []) 1 d ≡ a ∷ d ∷ b ∷ []) × (insert (a ∷ b ∷ []) 7 d ≡ a ∷ b ∷ d ∷ [])
    × (slice_set (a ∷ b ∷ []) 1 d ≡ a ∷ d ∷ []) × (slice_set (a ∷ b ∷ []) 7 d ≡ a ∷ b ∷ [])
    × (remove (a ∷ b ∷ []) 1 ≡ a ∷ []) × (remove (a ∷ b ∷ []) 7 ≡ a ∷ b ∷ [])

-- `concat` joins lists, `join_with_byte` joins them with a byte between each two, `flat_map` joins what a function gives of each member,
-- and `filter_map` takes the x of each Some x that it gives. `option_to_list` is a list of one member or none.
abbrev pub ListsAreJoined : Type 0
ListsAreJoined =
    (a b c : ℕ)
    → (concat ((a ∷ []) ∷ [] ∷ (b ∷ c ∷ []) ∷ []) ≡ a ∷ b ∷ c ∷ []) × (join_with_byte c ((a ∷ []) ∷ [] ∷ (b ∷ []) ∷ []) ≡ a ∷ c ∷ c ∷ b ∷ [])
    × (join_with_byte c [] ≡ []) × (flat_map (λ n. n ∷ n ∷ []) (a ∷ b ∷ []) ≡ a ∷ a ∷ b ∷ b ∷ [])
    × (filter_map (slice_get (a ∷ b ∷ [])) (1 ∷ 2 ∷ 0 ∷ []) ≡ b ∷ a ∷ []) × (option_to_list (Some a) ≡ a ∷ [])

-- `range_with_len` gives numbers from the first argument on, as many as the second one. `enumerate_from` numbers the members of a list from
-- a number on, and `replicate` gives a list of as many members as it says, all the same.
abbrev pub ListsAreCounted : Type 0
ListsAreCounted =
    (range_with_len 3 2 ≡ 3 ∷ 4 ∷ []) × ((a b : ℕ) → (enumerate_from 3 (a ∷ b ∷ []) ≡ (3, a) ∷ (4, b) ∷ []) × (replicate 2 a ≡ a ∷ a ∷ []))

-- `list_all` is the test that each member passes a test, and `list_any` that one of them does: of the empty list the first is true, and the
-- second is false.
abbrev pub TestsOfLists : Type 0
TestsOfLists =
    (list_all (λ n. n == 7) (7 ∷ 5 ∷ []) ≡ false) × (list_all (λ n. n == 7) [] ≡ true) × (list_any (λ n. n == 7) (5 ∷ 7 ∷ []) ≡ true)
    × (list_any (λ n. n == 7) [] ≡ false)

-- `AllZip` of lists of two lengths does not hold. Of lists of one length it is a statement about each two members with one number.
abbrev pub LengthsAreEqual : Type 0
LengthsAreEqual =
    (¬ AllZip (λ (a b : ℕ). Unit {0}) (5 ∷ []) []) × (¬ AllZip (λ (a b : ℕ). Unit {0}) [] (5 ∷ [])) × AllZip (λ a b. a < b) (5 ∷ 8 ∷ []) (7 ∷ 9 ∷ [])
    × (¬ AllZip (λ a b. a < b) (5 ∷ 8 ∷ []) (7 ∷ 6 ∷ []))

-- `All` and `AllByRecursion` hold of the empty list whatever they say of members; `AllPairs` holds of a list of one. `Any` and `Contains` hold
-- of no empty list.
abbrev pub EmptyListsHaveNone : Type 0
EmptyListsHaveNone =
    All (λ (n : ℕ). ⊥) [] × AllByRecursion (λ (n : ℕ). ⊥) [] × AllPairs (λ (a b : ℕ). ⊥) (5 ∷ []) × (¬ Any (λ (n : ℕ). Unit {0}) [])
    × ((n : ℕ) → ¬ Contains [] n)

-- `option_map` gives what a function gives of the x of a Some x, and `unwrap_or` gives this x, or its last argument if there is none. `IfSome`
-- is a statement about this x, which holds if there is none.
abbrev pub NoneHasNothing : Type 0
NoneHasNothing =
    ((a : ℕ) → (option_map (λ n. n + 1) (Some a) ≡ Some (a + 1)) × (option_map (λ n. n + 1) None ≡ None))
    × ((a d : ℕ) → (unwrap_or (Some a) d ≡ a) × (unwrap_or None d ≡ d))
    × IfSome (Some 5) (λ n. n < 6) × (¬ IfSome (Some 5) (λ n. n < 5)) × IfSome None (λ (n : ℕ). ⊥)

-- A stream has bytes that are known, Some bytes, or nothing is known of them, None. `Appends` says that these were written behind the
-- old ones, `Consumes` that these were read in front of the new ones, `Keeps` that nothing changed, and `IsAtEnd` that none is left. Of bytes
-- that were not known, the four say nothing; known ones stay known.
abbrev pub StreamsAreKnown : Type 0
StreamsAreKnown =
    Appends (Some (5 ∷ [])) (Some (5 ∷ 6 ∷ 7 ∷ [])) (6 ∷ 7 ∷ []) × ((new : Option (List ℕ)) → Appends None new (6 ∷ [])) × (¬ Appends (Some []) None [])
    × Consumes (Some (5 ∷ 6 ∷ 7 ∷ [])) (Some (7 ∷ [])) (5 ∷ 6 ∷ []) × ((new : Option (List ℕ)) → Consumes None new (6 ∷ [])) × (¬ Consumes (Some []) None [])
    × Keeps (Some (5 ∷ [])) (Some (5 ∷ [])) × ((new : Option (List ℕ)) → Keeps None new) × (¬ Keeps (Some []) None) × IsAtEnd (Some []) × IsAtEnd None
