use Rattle.std.proofs.Common.{take}
use Rattle.mm_machine.specs.Code.{Filling.{frame_taking}, PairClause.{HasSlots}}
use Rattle.mm_machine.proofs.pairs.find_slots.Given as goal

abbrev pub invariant-loop-n : goal.invariant-loop-n
invariant-loop-n g l = HasSlots (frame_taking g.S.Symbol.means g.S.Listed.Symbol.means l.taken).hypotheses
    (take l.n (frame_taking g.S.Symbol.means g.S.Listed.Symbol.means l.taken).pairs) l.to.items
