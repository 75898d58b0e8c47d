use Rattle.std.proofs.Common.{◌≡◌, false, take}
use Rattle.mm_frame.specs.Code.SeenNumbers.{has_number}
use Rattle.mm_frame.proofs.judge.stands_before.Given as goal

abbrev pub invariant-loop-k : goal.invariant-loop-k
invariant-loop-k l = has_number (take l.k l.numbers) l.number ≡ false
