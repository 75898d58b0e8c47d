use Rattle.std.proofs.Common.{◌≡◌, ℕ, ◌+◌, ◌-◌, length, slice_index_or}
use Rattle.mm_machine.proofs.apart.KnownApart.keep_first.Given as goal

abbrev pub invariant-loop-self : goal.invariant-loop-self
invariant-loop-self l = ((m : ℕ) → slice_index_or l.self.first.items m 0 ≡ slice_index_or l.initial.self.first.items m 0) × (l.self.later ≡ l.initial.self.later)

abbrev pub decreases-loop-self : goal.decreases-loop-self
decreases-loop-self l = l.variable + 1 - length l.self.first.items
