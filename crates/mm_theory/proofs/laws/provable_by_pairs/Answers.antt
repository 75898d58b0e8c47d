use Rattle.mm_theory.proofs.Pairs
use Rattle.mm_theory.proofs.laws.provable_by_pairs.Goals as goal

pub returns : goal.returns
returns c = Pairs.provable_by_pairs
