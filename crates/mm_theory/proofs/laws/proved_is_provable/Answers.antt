use Rattle.mm_theory.proofs.laws.proved_is_provable.Goals as goal

pub returns : goal.returns
returns c = λ base i axioms framed are proved. c.resting_is_provable.ensures base axioms i (c.proved_rests_on_axioms.ensures base i axioms framed are proved)
