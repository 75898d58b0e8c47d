use Rattle.std.proofs.Common.{◌≡◌, ◌∙◌, ap, drop, arith}
use Rattle.mm_text.proofs.NthLemmas.{goes_on, nth_of, nth_past}
use Rattle.mm_text.proofs.whole_text.nth_word.Goals as goal

pub loop-number-preserved : goal.loop-number-preserved
loop-number-preserved c = grind (arith, c.loop-number.invariant.left, goes_on) steps 200000

pub returns-in_err-next_word-clause-nth : goal.returns-in_err-next_word-clause-nth
returns-in_err-next_word-clause-nth c words has =
    let left = c.loop-number.invariant.left words has in
    c.from_residual.ensures ∙ nth_past words c.loop-number.cursor.words c.loop-number._number c.args.n left c.in_err-next_word.ensures.word.0 (omega arith)

pub returns-clause-nth : goal.returns-clause-nth
returns-clause-nth c words has =
    let all : c.loop-number._number ≡ c.args.n = omega arith in
    nth_of words c.loop-number.cursor.words c.next_word-2.new.self.words c.args.n c.next_word-2.result (c.loop-number.invariant.left words has ∙ ap (λ k. drop k words) all) c.next_word-2.ensures.word
