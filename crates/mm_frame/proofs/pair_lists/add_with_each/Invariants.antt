use Rattle.std.proofs.Common.{◌≡◌, ◌++◌, map, take}
use Rattle.mm_frame.specs.Code.KeptPairLists.{with_low_first}
use Rattle.mm_frame.proofs.pair_lists.add_with_each.Given as goal

abbrev pub invariant-loop-other : goal.invariant-loop-other
invariant-loop-other l = l.pairs.items ≡ l.initial.pairs.items ++ map (λ y. with_low_first (l.first, y)) (take l.other-index l.others)
