-- Sorted lists of pairs as the code keeps them, some of them made of two others.
use Rattle.std.specs.Prelude.{◌≡◌, ◌<◌, ℕ, Option, Some, None, List, [], ◌++◌, length, slice_get, Contains, Vec}
use Rattle.std.specs.Global.{Global}
use Rattle.mm_machine.specs.declared.symbol.NumberedSymbol.{NumberedSymbol}
use Rattle.mm_machine.specs.Language.NumberedSymbols.{AreInOrder}
use Rattle.mm_frame.specs.declared.sorted_lists.Join.{Join}
use Rattle.mm_frame.specs.declared.sorted_lists.SortedLists.TheInside.{Inside}

-- a list of pairs
abbrev pub Kept : Type 0
Kept = Vec (NumberedSymbol × NumberedSymbol) Global

-- the pairs of a list: none if there is no list
abbrev pub pairs_or_none : Option Kept → List (NumberedSymbol × NumberedSymbol)
pairs_or_none None = []
pairs_or_none (Some list) = list.items

-- the list with this number: empty if there is no such list
abbrev pub list_at : List Kept → ℕ → List (NumberedSymbol × NumberedSymbol)
list_at lists k = pairs_or_none (slice_get lists k)

-- the list has each of these pairs
abbrev pub HasEach : List (NumberedSymbol × NumberedSymbol) → List (NumberedSymbol × NumberedSymbol) → Type 0
HasEach list pairs = (p : NumberedSymbol × NumberedSymbol) → Contains pairs p → Contains list p

-- the two lists have the same pairs
abbrev pub HasSame : List (NumberedSymbol × NumberedSymbol) → List (NumberedSymbol × NumberedSymbol) → Type 0
HasSame pairs list = HasEach list pairs × HasEach pairs list

-- the list with this number is of these pairs
pub record IsThere (lists : List Kept) (k : ℕ) (pairs : List (NumberedSymbol × NumberedSymbol)) : Type 0 where
  pub list : Kept
  pub there : slice_get lists k ≡ Some list
  pub same : list.items ≡ pairs

-- the lists that were there still are, with the same numbers, and there may be more
pub record KeepsAll (old new : List Kept) : Type 0 where
  pub more : List Kept
  pub whole : new ≡ old ++ more

-- a list has the pairs of two others, and is in order if they are
pub record HasBoth (one other both : List (NumberedSymbol × NumberedSymbol)) : Type 0 where
  pub same : HasSame (one ++ other) both
  pub order : AreInOrder one → AreInOrder other → AreInOrder both

-- the list with this number has the pairs of two others
pub record IsOfBoth (one other : List (NumberedSymbol × NumberedSymbol)) (lists : List Kept) (k : ℕ) : Type 0 where
  pub both : List (NumberedSymbol × NumberedSymbol)
  pub there : IsThere lists k both
  pub has : HasBoth one other both

-- these are there, by their numbers
pub record IsJoined (lists : List Kept) (first second k : ℕ) : Type 0 where
  pub first_there : first < length lists
  pub second_there : second < length lists
  pub is : IsOfBoth (list_at lists first) (list_at lists second) lists k

-- the lists
abbrev pub sorted_inside : Inside → List Kept
sorted_inside inside = inside.lists.items

-- what is kept of lists that were made of two others is so
abbrev pub AreJoins : Inside → Type 0
AreJoins inside = (n : ℕ) (join : Join) → slice_get inside.joins.items n ≡ Some join → IsJoined inside.lists.items join.first join.second join.list
