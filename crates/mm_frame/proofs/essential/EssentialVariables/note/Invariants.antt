use Rattle.std.proofs.Common.{◌≡◌, ◌+◌, ◌-◌}
use Rattle.mm_frame.proofs.essential.EssentialVariables.note.Given as goal

abbrev pub invariant-loop-self : goal.invariant-loop-self
invariant-loop-self l = l.self.found ≡ l.initial.self.found

abbrev pub decreases-loop-self : goal.decreases-loop-self
decreases-loop-self l = l.symbol.name + 1 - l.self.places.len
