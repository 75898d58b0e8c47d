use Rattle.std.proofs.Common.{◌≡◌, ◌+◌, ◌-◌, ◌≤◌, map, take, length}
use Rattle.mm_machine.proofs.machine.build_in_room.Given as goal

abbrev pub invariant-loop-count : goal.invariant-loop-count
invariant-loop-count g l = record {
  room : l.top + 4 ≤ length l.symbols.items;
  below : take l.top (map g.S.Symbol.means l.symbols.items) ≡ take l.top (map g.S.Symbol.means l.initial.symbols.items);
}

abbrev pub decreases-loop-count : goal.decreases-loop-count
decreases-loop-count g l = 1000005 - (length l.symbols.items - l.top)
