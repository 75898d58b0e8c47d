use Rattle.std.{proofs.Common.{length}, specs.List.{before_first}}
use Rattle.mm_verdict.specs.Language.Decoding.{is_close}
use Rattle.mm_proof.specs.Code.TwoTheorems.{LeavesLabels}
use Rattle.mm_proof.proofs.view.same_listed.Given as goal

abbrev pub invariant-loop-word : goal.invariant-loop-word
invariant-loop-word l = LeavesLabels l.two (before_first is_close l.initial.words) (before_first is_close l.words)

abbrev pub decreases-loop-word : goal.decreases-loop-word
decreases-loop-word l = length l.words
