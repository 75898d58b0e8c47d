use Rattle.std.proofs.Common.{ℕ, ◌<◌, get_or}
use Rattle.mm_frame.specs.Code.{LastItems.{IsRising}, KeptDisjointRows.{IsCommon}}
use Rattle.mm_frame.proofs.disjoint_rows.first_in_both.Given as goal

abbrev pub invariant-loop-k : goal.invariant-loop-k
invariant-loop-k l = IsRising l.other → (j : ℕ) → j < l.k → IsCommon l.blocks l.row l.other (get_or l.row j 0) → ⊥
