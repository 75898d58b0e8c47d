use Rattle.std.proofs.Common.{◌≡◌, ◌+◌, length}
use Rattle.mm_verdict.proofs.checking.closing_spot.Given as goal

abbrev pub invariant-loop-words : goal.invariant-loop-words
invariant-loop-words l = l.word + length l.words ≡ length l.initial.words

abbrev pub decreases-loop-words : goal.decreases-loop-words
decreases-loop-words l = length l.words
