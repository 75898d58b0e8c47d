-- What symbols, expressions and pairs mean that are given by numbers of names: the numbers are read by a list of all names.
use Rattle.std.specs.Prelude.{◌≡◌, ℕ, ◌<◌, ◌≤◌, ◌/◌, ◌%◌, ◌==◌, ◌&&◌, ◌||◌, Bool, true, false, Some, List, [], ◌∷◌, All, length, map, nat_lt, slice_get}
use Rattle.mm_machine.specs.declared.symbol.NamedSymbol.{NamedSymbol}
use Rattle.mm_machine.specs.declared.symbol.CodedSymbol.{CodedSymbol}
use Rattle.mm_machine.specs.declared.symbol.NumberedSymbol.{NumberedSymbol}
use Rattle.mm_machine.specs.Language.Frame.{Symbol, AreSamePairs}
use Rattle.mm_machine.specs.Language.Names.{name_at}

-- the symbol that a symbol with its name is
abbrev pub named_symbol : NamedSymbol → Symbol
named_symbol kept = record { name = kept.name.items; variable = kept.variable }

-- the symbol whose name is its number
abbrev pub by_number : NumberedSymbol → Symbol
by_number kept = record { name = kept.name ∷ []; variable = kept.variable }

-- the symbol that a code is: its half is the number of the name, and an odd one is a variable's
abbrev pub by_code : CodedSymbol → Symbol
by_code coded = record { name = coded.code / 2 ∷ []; variable = coded.code % 2 == 1 }

-- the symbols whose names are their numbers
abbrev pub all_by_number : List NumberedSymbol → List Symbol
all_by_number symbols = map by_number symbols

-- the symbol that a symbol by number is, by the list of all names
abbrev pub symbol_of : List (List ℕ) → NumberedSymbol → Symbol
symbol_of all kept = record { name = name_at all kept.name; variable = kept.variable }

-- the expression that symbols by number are
abbrev pub symbols_of : List (List ℕ) → List NumberedSymbol → List Symbol
symbols_of all kept = map (symbol_of all) kept

-- a name as a variable
abbrev pub as_variable : List ℕ → Symbol
as_variable name = record { name = name; variable = true }

-- the pair of symbols that a pair by number is
abbrev pub pair_of : List (List ℕ) → NumberedSymbol × NumberedSymbol → Symbol × Symbol
pair_of all kept = (symbol_of all kept.0, symbol_of all kept.1)

-- the pairs that pairs by number are
abbrev pub kept_pairs : List (List ℕ) → List (NumberedSymbol × NumberedSymbol) → List (Symbol × Symbol)
kept_pairs all kept = map (pair_of all) kept

-- the number of the symbol's name is that of a name in the list
abbrev pub IsNumbered : List (List ℕ) → NumberedSymbol → Type 0
IsNumbered all kept = kept.name < length all

-- the numbers of both symbols of a pair are those of names
abbrev pub IsPairNumbered : List (List ℕ) → NumberedSymbol × NumberedSymbol → Type 0
IsPairNumbered all kept = IsNumbered all kept.0 × IsNumbered all kept.1

-- the symbols that are kept are read as these
pub record AreSymbolsRead (all : List (List ℕ)) (said : List Symbol) (kept : List NumberedSymbol) : Type 0 where
  pub symbols : symbols_of all kept ≡ said
  pub numbered : All (IsNumbered all) kept

-- the pairs that are kept are read as these
pub record ArePairsRead (all : List (List ℕ)) (said : List (Symbol × Symbol)) (kept : List (NumberedSymbol × NumberedSymbol)) : Type 0 where
  pub pairs : kept_pairs all kept ≡ said
  pub numbered : All (IsPairNumbered all) kept

-- the pairs that are kept are the same as these, in whatever order
pub record AreSamePairsRead (all : List (List ℕ)) (said : List (Symbol × Symbol)) (kept : List (NumberedSymbol × NumberedSymbol)) : Type 0 where
  pub pairs : AreSamePairs (kept_pairs all kept) said
  pub numbered : All (IsPairNumbered all) kept

-- one pair of numbers comes before the other: by the first of the two, and by the second if the first are the same
abbrev pub comes_before : ℕ × ℕ → ℕ × ℕ → Bool
comes_before one other = nat_lt one.0 other.0 || ((one.0 == other.0) && nat_lt one.1 other.1)

-- the numbers of the names of a pair
abbrev pub name_numbers : NumberedSymbol × NumberedSymbol → ℕ × ℕ
name_numbers kept = (kept.0.name, kept.1.name)

-- each pair has the lower number of a name first, and no pair comes before an earlier one of the list
pub record AreInOrder (kept : List (NumberedSymbol × NumberedSymbol)) : Type 0 where
  pub low : All (λ p. p.0.name ≤ p.1.name) kept
  pub rising : (i j : ℕ) (p q : NumberedSymbol × NumberedSymbol) → i ≤ j → slice_get kept i ≡ Some p → slice_get kept j ≡ Some q
      → comes_before (name_numbers q) (name_numbers p) ≡ false
