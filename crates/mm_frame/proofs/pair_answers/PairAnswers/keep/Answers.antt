use Rattle.mm_frame.proofs.lemmas.pairs.PairAnswerLemmas.{answer_kept}
use Rattle.mm_frame.proofs.pair_answers.PairAnswers.keep.Goals as goal

pub returns : goal.returns
returns c all before knows is =
    answer_kept all before c.args.self.now.by_names c.insert.new.self (c.args.first, c.args.second) c.args.answer is (λ other. c.in_ok-insert.ensures.updates.0 other) knows
