use Rattle.std.proofs.{Common.{arith}, lemmas.Grind.{common_steps}}
use Rattle.mm_keep.proofs.{OneAnswers.{Laws, one_count, one_label, one_finding, one_verdict, one_tally}, laws.one_answer_each.Goals.{After-has_one_verdict_at}}
use Rattle.mm_keep.proofs.laws.one_answer_each.Goals as goal

laws : After-has_one_verdict_at → Laws
laws c = grind (arith, common_steps) steps 200000

pub returns-clause-count : goal.returns-clause-count
returns-clause-count c = one_count (laws c)

pub returns-clause-label : goal.returns-clause-label
returns-clause-label c = one_label (laws c)

pub returns-clause-finding : goal.returns-clause-finding
returns-clause-finding c = one_finding (laws c)

pub returns-clause-verdict : goal.returns-clause-verdict
returns-clause-verdict c = one_verdict (laws c)

pub returns-clause-tally : goal.returns-clause-tally
returns-clause-tally c = one_tally (laws c)
