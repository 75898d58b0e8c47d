use Rattle.std.proofs.Common.{◌≡◌, ℕ, ◌+◌, ◌-◌}
use Rattle.mm_frame.specs.Code.KeptDisjointRows.{row_at}
use Rattle.mm_frame.proofs.disjoint_rows.DisjointRows.grow.Given as goal

abbrev pub invariant-loop-alloc : goal.invariant-loop-alloc
invariant-loop-alloc l = (n : ℕ) → row_at l.self n ≡ row_at l.initial.self n

abbrev pub decreases-loop-alloc : goal.decreases-loop-alloc
decreases-loop-alloc l = l.name + 1 - l.self.rows.len
