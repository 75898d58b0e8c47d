use Rattle.std.proofs.Common.{◌≤◌}
use Rattle.mm_keep.proofs.planning.proof_count.Given as goal

abbrev pub invariant-loop-j : goal.invariant-loop-j
invariant-loop-j l = l.proofs ≤ l.j
