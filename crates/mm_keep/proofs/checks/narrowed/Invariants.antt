use Rattle.std.proofs.Common.{◌≡◌, take}
use Rattle.mm_keep.proofs.checks.narrowed.Given as goal

abbrev pub invariant-loop-number : goal.invariant-loop-number
invariant-loop-number l = l.narrowed.items ≡ take l.number-index l.numbers
