use Rattle.std.proofs.Common.{◌≤◌, length}
use Rattle.mm_frame.proofs.pair_lists.PairLists.listed_count.Given as goal

abbrev pub invariant-loop-count : goal.invariant-loop-count
invariant-loop-count l = l.count ≤ length l.disjoints

abbrev pub decreases-loop-count : goal.decreases-loop-count
decreases-loop-count l = l.count
