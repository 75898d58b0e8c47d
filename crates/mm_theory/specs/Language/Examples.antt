-- Small formal systems in which each variable has the typecode `X`: what is provable in them, and what is not. Each name is one letter.
use Rattle.std.specs.Prelude.{◌≡◌, ℕ, nat_le, true, false, if◌then◌else◌, Some, None, List, [], ◌∷◌, bytes_eq, codes}
use Rattle.mm_frame.specs.mm_machine.Language.Frame.{Symbol, Mandatory, Frame, ArePair}
use Rattle.mm_frame.specs.mm_machine.Language.Substitution.{substituted}
use Rattle.mm_frame.specs.Language.Examples as small
use Rattle.mm_theory.specs.Language.Databases.{constant, system_of}
use Rattle.mm_theory.specs.Language.System.{System, IsInClosure, IsProvable}

-- a letter as a symbol: a small one is a variable, a capital a constant
abbrev pub letter : ℕ → Symbol
letter byte = record { name = byte ∷ []; variable = nat_le 97 byte }

-- the typecode `X`
abbrev pub X : Symbol
X = letter 88

-- the constant `P`
abbrev pub P : Symbol
P = letter 80

-- the constant `Q`
abbrev pub Q : Symbol
Q = letter 81

-- the variable `x`
abbrev pub x : Symbol
x = letter 120

-- the variable `y`
abbrev pub y : Symbol
y = letter 121

-- the `$f` of a variable
abbrev pub float : Symbol → Mandatory
float v = record { floating = true; expression = X ∷ v ∷ [] }

-- the system with these axioms, in which each variable has the typecode `X`
abbrev pub system : List Frame → System
system axioms = record { typecode = λ v. if v.variable then Some X else None; axioms = axioms }

-- the system with these axioms, in which no variable has a typecode
abbrev pub untyped : List Frame → System
untyped axioms = record { typecode = λ v. None; axioms = axioms }

-- the pair of x and y
abbrev pub pair : List (Symbol × Symbol)
pair = (x, y) ∷ []

-- `P x y`, with these pairs
abbrev pub two : List (Symbol × Symbol) → Frame
two pairs = record { expression = P ∷ x ∷ y ∷ []; hypotheses = float x ∷ float y ∷ []; pairs = pairs }

-- `P y x`, with the pair of x and y
abbrev pub turned : Frame
turned = record { expression = P ∷ y ∷ x ∷ []; hypotheses = float x ∷ float y ∷ []; pairs = pair }

-- `P x`
abbrev pub one : Frame
one = record { expression = P ∷ x ∷ []; hypotheses = float x ∷ []; pairs = [] }

-- `Q`, if `P x`
abbrev pub from_one : Frame
from_one = record { expression = Q ∷ []; hypotheses = float x ∷ record { floating = false; expression = P ∷ x ∷ [] } ∷ []; pairs = [] }

-- `Q`, if `P x y`
abbrev pub from_two : Frame
from_two = record {
  expression = Q ∷ [];
  hypotheses = float x ∷ float y ∷ record { floating = false; expression = P ∷ x ∷ y ∷ [] } ∷ [];
  pairs = [];
}

-- `Q`, with no variable
abbrev pub goal : Frame
goal = record { expression = Q ∷ []; hypotheses = []; pairs = [] }

-- what puts a symbol in the place of one variable, and keeps others
abbrev pub put : Symbol → Symbol → Symbol → List Symbol
put v s w = if bytes_eq w.name v.name then s ∷ [] else w ∷ []

-- A missing `$d` makes a statement unprovable: from `P x y` with the pair of x and y, the same with the pair is provable, and without it not.
abbrev pub PairsAreNeeded : Type 0
PairsAreNeeded = IsProvable (system (two pair ∷ [])) (two pair) × ¬ IsProvable (system (two pair ∷ [])) (two [])

-- `Q` is provable from `P x`, and from `Q` if `P x`, by a dummy variable; if no variable has a typecode, it is not.
abbrev pub DummiesAreNeeded : Type 0
DummiesAreNeeded = IsProvable (system (one ∷ from_one ∷ [])) goal × ¬ IsProvable (untyped (one ∷ from_one ∷ [])) goal

-- `Q` is provable from `P x y` with the pair of x and y, and from `Q` if `P x y`, by two dummies that are paired; by the statement's own pairs
-- alone it is not.
abbrev pub DummiesArePaired : Type 0
DummiesArePaired =
    IsProvable (system (two pair ∷ from_two ∷ [])) goal
    × ¬ IsInClosure (system (two pair ∷ from_two ∷ [])) (ArePair goal.pairs) goal.hypotheses goal.expression

-- `Q` is not provable from `Q` if `P x` alone: the axiom `P x` may not be left out.
abbrev pub AxiomsAreNeeded : Type 0
AxiomsAreNeeded = ¬ IsProvable (system (from_one ∷ [])) goal

-- `P y x` is provable from `P x y`, with the pair of x and y: both variables are replaced at once. Replaced one after the other, they give
-- `P x x`.
abbrev pub VariablesAreReplacedAtOnce : Type 0
VariablesAreReplacedAtOnce =
    IsProvable (system (two pair ∷ [])) turned × (substituted (put y x) (substituted (put x y) (two pair).expression) ≡ P ∷ x ∷ x ∷ [])

-- the system of mm_frame's example, of which `wi $a w ( p > q ) $.` is the axiom. It has number 5
abbrev pub small_system : System
small_system = system_of small.base (5 ∷ [])

-- Its variables have the typecode of their `$f`, and so have their copies, which have a number more in front of their names. A constant
-- has none, nor has a name of which no end has a `$f`.
abbrev pub VariablesAreTyped : Type 0
VariablesAreTyped =
    (small_system.typecode small.p ≡ Some (constant (codes "w")))
    × (small_system.typecode (record { name = 7 ∷ codes "p"; variable = true }) ≡ Some (constant (codes "w")))
    × (small_system.typecode (constant (codes "w")) ≡ None) × (small_system.typecode (record { name = codes "x"; variable = true }) ≡ None)

-- `w ( p > p )`, if `w p`
abbrev pub implied : Frame
implied = record { expression = small.letter_symbols (codes "w(p>p)"); hypotheses = small.typing (codes "wp") ∷ []; pairs = [] }

-- It is provable from the axiom, and not without it.
abbrev pub AxiomIsUsed : Type 0
AxiomIsUsed = IsProvable small_system implied × ¬ IsProvable (system_of small.base []) implied
