use Rattle.std.proofs.Common.{◌≡◌, length, ◌↔◌}
use Rattle.mm_statement.proofs.statement.same_words.Given as goal

-- what is left of both is the same exactly when the words of both are
abbrev pub invariant-loop-mine : goal.invariant-loop-mine
invariant-loop-mine l = (l.one ≡ l.other) ↔ (l.initial.one ≡ l.initial.other)

abbrev pub decreases-loop-mine : goal.decreases-loop-mine
decreases-loop-mine l = length l.one
