use Rattle.mm_theory.proofs.Citing.{acts}
use Rattle.mm_theory.proofs.laws.provable_acts.Goals as goal

pub returns : goal.returns
returns c = λ system frame cited given is stands proved may. acts system is cited frame given stands proved may.hypotheses may.pairs
