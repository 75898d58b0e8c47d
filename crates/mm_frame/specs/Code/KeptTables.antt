-- What the items so far declare, as the code keeps it: of each name what it is declared as, and of each label the number of its item.
use Rattle.std.specs.Prelude.{◌≡◌, ℕ, Bool, true, false, if◌then◌else◌, Option, Some, None, List, slice_index_or, bytes_eq}
use Rattle.mm_frame.specs.declared.tables.Tables.{Tables}
use Rattle.mm_frame.specs.declared.tables.Declared.{Declared}
use Rattle.mm_frame.specs.declared.tables.Declared.TheVariants.{Constant, Variable}
use Rattle.mm_statement.specs.Language.Item.{Said, has}
use Rattle.mm_frame.specs.Language.Scope.{constants}
use Rattle.mm_machine.specs.Language.Names.{AreDistinct}
use Rattle.mm_frame.specs.Code.Numbers.{number_in}
use Rattle.mm_frame.specs.Code.KeptLabels.{label_number}
use Rattle.mm_frame.specs.Code.LastItems.{last_where, declares_variable, types, carries}

-- what the tables say of the name with a number
abbrev pub declared_at : Tables → ℕ → Option Declared
declared_at tables n = slice_index_or tables.declared.items n None

abbrev pub declared_for : Tables → Option ℕ → Option Declared
declared_for tables None = None
declared_for tables (Some n) = declared_at tables n

-- what the tables say of a name, by its number among all names
abbrev pub table_name : List (List ℕ) → Tables → List ℕ → Option Declared
table_name all tables name = declared_for tables (number_in all name)

-- what the tables say of a label
abbrev pub table_label : Tables → List ℕ → Option ℕ
table_label tables label = label_number tables.labels label

-- a variable, if there is a number of a `$v` that declares it
abbrev pub variable_at : Option ℕ → Option ℕ → Option Declared
variable_at None float = None
variable_at (Some declared) float = Some (Variable declared float)

-- a name with this declaration is a constant
abbrev pub is_constant_as : Option Declared → Bool
is_constant_as (Some Constant) = true
is_constant_as _ = false

-- what a name is declared as: a constant, or a variable with the last `$v` that declares it and the last `$f` that types it
abbrev pub declared_in : List Said → List ℕ → Option Declared
declared_in items name =
    if has (constants items) name then Some Constant
    else variable_at (last_where (declares_variable name) items) (last_where (types name) items)

-- the number of the last `$v` of a variable
abbrev pub variable_number : Option Declared → Option ℕ
variable_number None = None
variable_number (Some Constant) = None
variable_number (Some (Variable declared float)) = Some declared

-- the number of the last `$f` of a variable, if there is one
abbrev pub float_of : Option Declared → Option ℕ
float_of None = None
float_of (Some Constant) = None
float_of (Some (Variable declared float)) = float

-- a variable is typed by the `$f` with this number from now on
abbrev pub typed_by : ℕ → Option Declared → Option Declared
typed_by number None = None
typed_by number (Some Constant) = Some Constant
typed_by number (Some (Variable declared float)) = Some (Variable declared (Some number))

-- the tables say what these items declare, by the numbers of names in the list of all
pub record Knows (all : List (List ℕ)) (items : List Said) (tables : Tables) : Type 0 where
  pub distinct : AreDistinct all
  pub names : (name : List ℕ) → table_name all tables name ≡ declared_in items name
  pub labels : (label : List ℕ) → table_label tables label ≡ last_where (carries label) items

-- these names are declared from now on, each by the function of what it was, and nothing else changes
pub record Declares (all : List (List ℕ)) (old : Tables) (symbols : List (List ℕ)) (declared : Option Declared → Declared) (new : Tables) : Type 0 where
  pub names : (name : List ℕ) → table_name all new name ≡ (if has symbols name then Some (declared (table_name all old name)) else table_name all old name)
  pub labels : (label : List ℕ) → table_label new label ≡ table_label old label

-- this name, if it is a variable, is typed by the `$f` with this number from now on, and nothing else changes
pub record TypesName (all : List (List ℕ)) (old : Tables) (variable : List ℕ) (number : ℕ) (new : Tables) : Type 0 where
  pub names : (name : List ℕ) →
      table_name all new name ≡ (if bytes_eq variable name then typed_by number (table_name all old name) else table_name all old name)
  pub labels : (label : List ℕ) → table_label new label ≡ table_label old label

-- these labels are those of the item with this number from now on, and nothing else changes
pub record Carries (all : List (List ℕ)) (old : Tables) (carried : List (List ℕ)) (number : ℕ) (new : Tables) : Type 0 where
  pub names : (name : List ℕ) → table_name all new name ≡ table_name all old name
  pub labels : (label : List ℕ) → table_label new label ≡ (if has carried label then Some number else table_label old label)
