use Rattle.std.proofs.Common.{take}
use Rattle.mm_frame.specs.Code.KeptSortedLists.{HasEach}
use Rattle.mm_frame.proofs.pair_lists.has_all.Given as goal

abbrev pub invariant-loop-pair : goal.invariant-loop-pair
invariant-loop-pair l = HasEach l.list (take l.pair-index l.pairs)
