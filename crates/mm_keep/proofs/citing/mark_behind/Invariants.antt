use Rattle.std.proofs.Common.{◌≡◌, ◌+◌, ℕ, length}
use Rattle.mm_keep.{specs.Code.Cited.{OfChecks}, proofs.ChainLemmas.{AreBehind}}
use Rattle.mm_keep.proofs.citing.mark_behind.Given as goal

abbrev pub invariant-loop-n : goal.invariant-loop-n
invariant-loop-n l = OfChecks l.files l.base l.checked (λ view. (front : ℕ) → front + l.n ≡ length l.initial.marks → AreBehind view l.initial.marks l.marks front)
