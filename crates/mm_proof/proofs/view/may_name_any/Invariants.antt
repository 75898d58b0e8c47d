use Rattle.mm_frame.specs.mm_statement.Language.Statement.{Says}
use Rattle.mm_proof.specs.Code.TwoTheorems.{AreUnnamed}
use Rattle.mm_frame.specs.mm_statement.Language.Item as meant
use Rattle.mm_proof.proofs.view.may_name_any.Given as goal

abbrev pub invariant-loop-k : goal.invariant-loop-k
invariant-loop-k l = (said : meant.Said) → Says l.files l.item said → AreUnnamed l.two said.proof l.changed l.k
