use Rattle.mm_theory.proofs.Citing.{unfolded}
use Rattle.mm_theory.proofs.laws.provable_adds_nothing.Goals as goal

pub returns : goal.returns
returns c = λ system more is extended frame proof. unfolded system more is extended.typecodes extended.axioms frame proof
