-- The lists of active pairs, each made once, for a count of items.
use Rattle.std.specs.Prelude.{◌≡◌, ℕ, ◌≤◌, leb, cond, Option, Some, List, [], ◌∷◌, ◌++◌, length, map, take, slice_get, nat_eq}
use Rattle.std.specs.HashMap.{get}
use Rattle.mm_machine.specs.declared.symbol.NumberedSymbol.{NumberedSymbol}
use Rattle.mm_frame.specs.declared.pair_lists.PairLists.{PairLists}
use Rattle.mm_frame.specs.Code.KeptSortedLists.{Kept, KeepsAll, list_at}
use Rattle.mm_machine.specs.Language.Frame.{Symbol}
use Rattle.mm_statement.specs.Language.Item.{Said}
use Rattle.mm_frame.specs.Language.Framing.{active_pairs}
use Rattle.mm_frame.specs.Language.Scope.{active_numbers}
use Rattle.mm_frame.specs.Code.LastItems.{is_disjoint_item}
use Rattle.mm_machine.specs.Language.NumberedSymbols.{AreSamePairsRead, AreInOrder}

-- the list with this number: empty if there is no such list
abbrev pub list_kept : PairLists → ℕ → List (NumberedSymbol × NumberedSymbol)
list_kept lists k = list_at lists.lists k

-- the two symbols, the one with the lower number of its name first
abbrev pub with_low_first : NumberedSymbol × NumberedSymbol → NumberedSymbol × NumberedSymbol
with_low_first pair = cond (leb pair.0.name pair.1.name) pair (pair.1, pair.0)

-- each symbol with each later one, the lower number of a name first
abbrev pub pairs_among : List NumberedSymbol → List (NumberedSymbol × NumberedSymbol)
pairs_among [] = []
pairs_among (x ∷ xs) = map (λ y. with_low_first (x, y)) xs ++ pairs_among xs

-- there is a list with this number, it is of these pairs, and they are in order
pub record IsList (all : List (List ℕ)) (lists : PairLists) (k : ℕ) (pairs : List (Symbol × Symbol)) : Type 0 where
  pub list : Kept
  pub there : slice_get lists.lists k ≡ Some list
  pub read : AreSamePairsRead all pairs list.items
  pub order : AreInOrder list.items

-- the number of the list that is made for this count of items
abbrev pub listed_for : PairLists → ℕ → Option ℕ
listed_for lists count = get nat_eq lists.by_count count

-- the list with this number has the pairs that are active after this many of the items
pub record IsListFor (all : List (List ℕ)) (before : List Said) (lists : PairLists) (count k : ℕ) : Type 0 where
  pub within : count ≤ length before
  pub list : IsList all lists k (active_pairs (take count before))

-- this holds of each list that is made
abbrev pub AreListsFor : List (List ℕ) → List Said → PairLists → Type 0
AreListsFor all before lists = (count k : ℕ) → listed_for lists count ≡ Some k → IsListFor all before lists count k

-- the lists that were there still are, with the same numbers, and there may be more
abbrev pub KeepsLists : PairLists → PairLists → Type 0
KeepsLists old new = KeepsAll old.lists new.lists

-- these are the numbers of the `$d` that are active after this many of the items
pub record AreFrontNumbers (before : List Said) (numbers : List ℕ) (count : ℕ) : Type 0 where
  pub within : count ≤ length before
  pub active : numbers ≡ active_numbers is_disjoint_item (take count before)
