use Rattle.std.proofs.Common.{◌≡◌, ℕ, ◌+◌, ◌-◌, length}
use Rattle.mm_frame.specs.Code.KeptTables.{declared_at}
use Rattle.mm_frame.proofs.tables.Tables.grow.Given as goal

abbrev pub invariant-loop-self : goal.invariant-loop-self
invariant-loop-self l = ((n : ℕ) → declared_at l.self n ≡ declared_at l.initial.self n) × (l.self.labels ≡ l.initial.self.labels)

abbrev pub decreases-loop-self : goal.decreases-loop-self
decreases-loop-self l = l.number + 1 - length l.self.declared.items
