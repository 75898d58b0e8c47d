use Rattle.std.proofs.Common.{◌≡◌, map, take}
use Rattle.mm_frame.specs.Code.KeptSymbols.{variable_by}
use Rattle.mm_frame.proofs.symbol.put_variables.Given as goal

abbrev pub invariant-loop-number : goal.invariant-loop-number
invariant-loop-number l = l.variables.items ≡ map variable_by (take l.number-index l.numbers)
