use Rattle.mm_proof.proofs.view.same_meaning.Goals as goal

pub returns-in-Hypothesis-Hypothesis : goal.returns-in-Hypothesis-Hypothesis
returns-in-Hypothesis-Hypothesis c base copy f g = let both = c.in-Hypothesis-Hypothesis in rw (both.is-0, both.is-1) (λ m y. c.same_expression.ensures c.args.two.names.now base copy f g m y)
