-- Symbols and expressions as the code keeps them.
use Rattle.std.specs.Prelude.{◌≡◌, ℕ, Bool, true, not, length, if◌then◌else◌, Some, List, [], All, take, slice_get, option_to_list}
use Rattle.std.specs.List.{flat_map}
use Rattle.mm_machine.specs.declared.symbol.NumberedSymbol.{NumberedSymbol}
use Rattle.mm_frame.specs.declared.tables.Tables.{Tables}
use Rattle.mm_machine.specs.Language.Frame.{Symbol}
use Rattle.mm_statement.specs.Language.Item.{Said, has, is_labelled, is_read}
use Rattle.mm_frame.specs.Language.Scope.{constants}
use Rattle.mm_frame.specs.Language.Framing.{expression}
use Rattle.mm_frame.specs.Code.KeptLists.{item_list}
use Rattle.mm_frame.specs.Code.KeptTables.{declared_at, is_constant_as, float_of}
use Rattle.mm_machine.specs.Language.NumberedSymbols.{symbols_of, IsNumbered}

-- a name as a symbol: a variable if it is no declared constant
abbrev pub by_constants : List Said → List ℕ → Symbol
by_constants before name = record { name = name; variable = not (has (constants before) name) }

-- a name by its number as a symbol: a variable if it is no declared constant
abbrev pub symbol_by : Tables → ℕ → NumberedSymbol
symbol_by tables n = record { name = n; variable = not (is_constant_as (declared_at tables n)) }

-- the variable whose name has this number
abbrev pub variable_by : ℕ → NumberedSymbol
variable_by n = record { name = n; variable = true }

-- for each `$f`, `$e`, `$a` and `$p` its expression is kept, read at its own place
abbrev pub AreExpressions : List (List ℕ) → List Said → List (List NumberedSymbol) → Type 0
AreExpressions all before expressions = (n : ℕ) (item : Said) → slice_get before n ≡ Some item → is_labelled item.kind ≡ true
    → symbols_of all (item_list expressions n) ≡ expression (take n before) item

-- each symbol that is kept has the number of a name
abbrev pub AreNumbered : List (List ℕ) → List (List NumberedSymbol) → Type 0
AreNumbered all expressions = (n : ℕ) → All (IsNumbered all) (item_list expressions n)

-- for each `$f`, `$e`, `$a`, `$p` and `$d` its symbols are kept, read at its own place
pub record AreSymbols (all : List (List ℕ)) (before : List Said) (expressions : List (List NumberedSymbol)) : Type 0 where
  pub count : length expressions ≡ length before
  pub numbered : AreNumbered all expressions
  pub each : (n : ℕ) (item : Said) → slice_get before n ≡ Some item → is_read item.kind ≡ true
      → symbols_of all (item_list expressions n) ≡ expression (take n before) item

-- the symbols that are kept of an item are its expression or its variables, if the flag says that it is sound
pub record AreSymbolsOf (all : List (List ℕ)) (before : List Said) (item : Said) (sound : Bool) (symbols : List NumberedSymbol) : Type 0 where
  pub numbered : All (IsNumbered all) symbols
  pub read : sound ≡ true → is_read item.kind ≡ true → symbols_of all symbols ≡ expression before item

-- the number of the `$f` of a symbol that is a variable
abbrev pub float_number : Tables → NumberedSymbol → List ℕ
float_number tables kept = if kept.variable then option_to_list (float_of (declared_at tables kept.name)) else []

-- the numbers of the `$f` of the variables among some symbols, in order
abbrev pub float_numbers : Tables → List NumberedSymbol → List ℕ
float_numbers tables symbols = flat_map (float_number tables) symbols
