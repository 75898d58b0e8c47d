use Rattle.std.specs.Prelude.{filter, length}
use Rattle.mm_proof.specs.Code.{KeptMarks.{is_label_word}, TwoTheorems.{LeavesLabels}}
use Rattle.mm_proof.proofs.view.same_words.Given as goal

abbrev pub invariant-loop-word : goal.invariant-loop-word
invariant-loop-word l = LeavesLabels l.two (filter is_label_word l.initial.words) (filter is_label_word l.words)

abbrev pub decreases-loop-word : goal.decreases-loop-word
decreases-loop-word l = length l.words
