use Rattle.std.proofs.Common.{◌+◌, ◌-◌, length}
use Rattle.mm_machine.proofs.sets.note.Given as goal

abbrev pub decreases-loop-places : goal.decreases-loop-places
decreases-loop-places l = l.at + 1 - length l.places.items
