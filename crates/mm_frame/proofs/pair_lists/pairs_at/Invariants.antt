use Rattle.std.proofs.Common.{◌≡◌, take, flat_map}
use Rattle.mm_frame.specs.Code.{KeptPairLists.{pairs_among}, KeptLists.{item_list}}
use Rattle.mm_frame.proofs.pair_lists.pairs_at.Given as goal

abbrev pub invariant-loop-number : goal.invariant-loop-number
invariant-loop-number l = l.pairs.items ≡ flat_map (λ n. pairs_among (item_list l.expressions n)) (take l.number-index l.disjoints)
