use Rattle.std.proofs.Common.{◌≡◌, take}
use Rattle.mm_frame.specs.Code.{LastItems.{IsRising}, PairOrder.{float_variables}}
use Rattle.mm_frame.proofs.mandatory.put_typed.Given as goal

abbrev pub invariant-loop-number : goal.invariant-loop-number
invariant-loop-number l = IsRising l.essentials → l.variables.items ≡ float_variables l.essentials l.expressions (take l.number-index l.hypotheses)
