use Rattle.std.proofs.Common.{◌≡◌, ◌++◌, ◌-◌, List, length}
use Rattle.mm_machine.proofs.machine.stretch.Given as goal

abbrev pub invariant-loop-alloc : goal.invariant-loop-alloc
invariant-loop-alloc g l = (more : List g.row.S.Denot) × (l.symbols.items ≡ l.initial.symbols.items ++ more)

abbrev pub decreases-loop-alloc : goal.decreases-loop-alloc
decreases-loop-alloc g l = l.count - length l.symbols.items
