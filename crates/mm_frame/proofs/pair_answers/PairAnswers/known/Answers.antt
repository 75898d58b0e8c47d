use Rattle.std.proofs.Common.{sym}
use Rattle.mm_frame.proofs.pair_answers.PairAnswers.known.Goals as goal

pub returns-in-Some : goal.returns-in-Some
returns-in-Some c all before knows = knows (c.args.first, c.args.second) c.in-Some.answer.now (sym c.in-Some.ensures.value)
