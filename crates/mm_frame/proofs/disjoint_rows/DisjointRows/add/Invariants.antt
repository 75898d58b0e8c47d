use Rattle.std.proofs.Common.{take}
use Rattle.mm_frame.specs.Code.KeptDisjointRows.{AreOnce, PutsAll}
use Rattle.mm_frame.proofs.disjoint_rows.DisjointRows.add.Given as goal

abbrev pub invariant-loop-k : goal.invariant-loop-k
invariant-loop-k l = AreOnce l.names → PutsAll l.initial.self l.blocks (take l.k l.names) l.number l.self
