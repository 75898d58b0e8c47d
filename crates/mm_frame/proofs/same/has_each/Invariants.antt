use Rattle.std.proofs.Common.{take}
use Rattle.mm_frame.proofs.lemmas.pairs.SharedPairs.{HasEitherWay}
use Rattle.mm_frame.proofs.same.has_each.Given as goal

abbrev pub invariant-loop-pair : goal.invariant-loop-pair
invariant-loop-pair l = HasEitherWay l.list (take l.pair-index l.pairs)
