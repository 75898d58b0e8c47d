use Rattle.mm_report.proofs.AnswerLemmas.{same_report}
use Rattle.mm_report.proofs.laws.one_report.Goals as goal

pub returns : goal.returns
returns c = same_report c.files_have_one_database.ensures c.one_answer_each.ensures.finding
