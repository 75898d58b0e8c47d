-- What the code keeps of the variables of the active `$e`.
use Rattle.std.specs.Prelude.{◌≡◌, ℕ, ◌<◌, ◌≤◌, true, if◌then◌else◌, List, [], ◌++◌, length, Contains}
use Rattle.mm_frame.specs.declared.essential.EssentialVariable.{EssentialVariable}
use Rattle.mm_machine.specs.declared.symbol.NumberedSymbol.{NumberedSymbol}
use Rattle.mm_frame.specs.declared.tables.Tables.{Tables}
use Rattle.mm_frame.specs.Code.KeptSymbols.{float_number}
use Rattle.mm_frame.specs.Code.KeptLists.{item_list}
use Rattle.mm_frame.specs.Code.PairOrder.{is_among}

-- a variable that is kept by the number of a `$e`
abbrev pub by_essential : ℕ → NumberedSymbol → EssentialVariable
by_essential n symbol = record { number = n; symbol = symbol }

-- the variable is kept, by one of these `$e`
abbrev pub IsKeptBy : List ℕ → List EssentialVariable → NumberedSymbol → Type 0
IsKeptBy essentials found symbol = (n : ℕ) × Contains essentials n × Contains found (by_essential n symbol)

-- no more than a symbol of this `$e` is added, and if it is a variable it is kept
pub record AddsOne (essentials : List ℕ) (number : ℕ) (symbol : NumberedSymbol) (old new : List EssentialVariable) : Type 0 where
  pub more : List EssentialVariable
  pub whole : new ≡ old ++ more
  pub own : (v : EssentialVariable) → Contains more v → v ≡ by_essential number symbol
  pub there : symbol.variable ≡ true → IsKeptBy essentials new symbol

-- no more than these symbols of this `$e` are added, and the variables among them are kept
pub record AddsAll (essentials : List ℕ) (number : ℕ) (symbols : List NumberedSymbol) (old new : List EssentialVariable) : Type 0 where
  pub more : List EssentialVariable
  pub whole : new ≡ old ++ more
  pub own : (v : EssentialVariable) → Contains more v → (v.number ≡ number) × Contains symbols v.symbol
  pub there : (s : NumberedSymbol) → Contains symbols s → s.variable ≡ true → IsKeptBy essentials new s

-- a variable of a `$e` is kept by that one or an earlier one, which is one of these
pub record IsKeptVariable (essentials : List ℕ) (found : List EssentialVariable) (n : ℕ) (symbol : NumberedSymbol) : Type 0 where
  pub first : ℕ
  pub earlier : first ≤ n
  pub active : Contains essentials first
  pub there : Contains found (by_essential first symbol)

-- what is kept is a symbol of its `$e`, and each variable of these `$e` is kept
pub record AreVariablesOf (essentials : List ℕ) (expressions : List (List NumberedSymbol)) (found : List EssentialVariable) : Type 0 where
  pub within : (v : EssentialVariable) → Contains found v → v.number < length expressions
  pub from : (v : EssentialVariable) → Contains found v → Contains (item_list expressions v.number) v.symbol
  pub to : (n : ℕ) (s : NumberedSymbol) → Contains essentials n → Contains (item_list expressions n) s → s.variable ≡ true
      → IsKeptVariable essentials found n s

-- the number of the `$f` of a variable that is kept by one of these `$e`
abbrev pub known_float : Tables → List ℕ → EssentialVariable → List ℕ
known_float tables essentials v = if is_among essentials v.number then float_number tables v.symbol else []
