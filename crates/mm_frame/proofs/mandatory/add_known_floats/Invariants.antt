use Rattle.std.proofs.Common.{◌≡◌, ◌++◌, take, flat_map}
use Rattle.mm_frame.specs.Code.{LastItems.{IsRising}, KeptVariables.{known_float}}
use Rattle.mm_frame.proofs.mandatory.add_known_floats.Given as goal

abbrev pub invariant-loop-variable : goal.invariant-loop-variable
invariant-loop-variable l = IsRising l.essentials → l.numbers.items ≡ l.initial.numbers.items ++ flat_map (known_float l.tables l.essentials) (take l.variable-index l.variables)
