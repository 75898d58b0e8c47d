use Rattle.std.proofs.Common.{◌≡◌, drop}
use Rattle.mm_statement.proofs.statement.nth_of_proof.Given as goal

abbrev pub invariant-loop-number : goal.invariant-loop-number
invariant-loop-number l = l.words.words ≡ drop l._number l.initial.words.words
