-- The formal system of a database: its variables with their typecodes, copies of them without end, and some of its assertions as axioms.
use Rattle.std.specs.Prelude.{ℕ, Bool, true, false, ◌&&◌, if◌then◌else◌, Option, Some, None, List, [], ◌∷◌, map, bytes_eq}
use Rattle.std.specs.Option.{option_map, option_or}
use Rattle.mm_frame.specs.mm_machine.Language.Frame.{Symbol}
use Rattle.mm_frame.specs.mm_statement.Language.Item.{Said, is_kind, Floating, variable_of, typecode_of}
use Rattle.mm_frame.specs.Language.Sound.{sound_items}
use Rattle.mm_frame.specs.Language.Base.{BaseView, frame_at}
use Rattle.mm_theory.specs.Language.System.{System}

-- the typecode that a `$f` among the items gives to the variable with this name, if there is one
abbrev pub declared_typecode : List Said → List ℕ → Option (List ℕ)
declared_typecode [] name = None
declared_typecode (item ∷ items) name =
    if is_kind Floating item.kind && bytes_eq (variable_of item) name then Some (typecode_of item) else declared_typecode items name

-- the typecode of a name: that of its `$f`; a name without one is a copy of what is left of it without its first number, and has its typecode
abbrev pub typecode_in : List Said → List ℕ → Option (List ℕ)
typecode_in items [] = declared_typecode items []
typecode_in items (n ∷ name) = option_or (declared_typecode items (n ∷ name)) (typecode_in items name)

-- the constant with this name
abbrev pub constant : List ℕ → Symbol
constant name = record { name = name; variable = false }

-- a variable has the typecode that was found, as a constant; a constant has none
abbrev pub typecode_if : Bool → Option (List ℕ) → Option Symbol
typecode_if true found = option_map constant found
typecode_if false found = None

-- the formal system with the variables of a database, and with the frames of the assertions with these numbers as its axiomatic statements
abbrev pub system_of : BaseView → List ℕ → System
system_of base axioms = record {
  typecode = λ v. typecode_if v.variable (typecode_in (sound_items base) v.name);
  axioms = map (frame_at base) axioms;
}
