use Rattle.mm_frame.proofs.lemmas.scope.EndLemmas.{Dropped}
use Rattle.mm_frame.proofs.active_numbers.drop_ended.Given as goal

abbrev pub invariant-loop-number : goal.invariant-loop-number
invariant-loop-number l = Dropped l.blocks l.initial.numbers.items l.numbers.items

abbrev pub decreases-loop-number : goal.decreases-loop-number
decreases-loop-number l = l.numbers.len
