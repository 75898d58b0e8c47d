use Rattle.std.proofs.Common.{◌≡◌, ◌++◌, length}
use Rattle.mm_frame.specs.Code.KeptPairLists.{pairs_among}
use Rattle.mm_frame.proofs.pair_lists.add_pairs_of.Given as goal

abbrev pub invariant-loop-first : goal.invariant-loop-first
invariant-loop-first l = l.pairs.items ++ pairs_among l.rest ≡ l.initial.pairs.items ++ pairs_among l.symbols

abbrev pub decreases-loop-first : goal.decreases-loop-first
decreases-loop-first l = length l.rest
