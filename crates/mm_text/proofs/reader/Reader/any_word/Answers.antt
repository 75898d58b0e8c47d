use Rattle.std.proofs.{lemmas.{Grind.{common_steps}, Result.{err_from_is_err_and}}, Common.{◌≡◌, slice_range, sym, ◌∙◌, Some, arith}}
use Rattle.mm_text.{specs.{Language.Spelling.{opening}, Code.{LeftToRight.{word_kind}, Reader.{TakesSpan, SkipsComment}}}, proofs.ReaderLemmas.{pass_word, pass_comment, pass_fails}}
use Rattle.mm_text.proofs.reader.Reader.any_word.Goals as goal

pub returns-in_err-skip_comment-clause-word : goal.returns-in_err-skip_comment-clause-word
returns-in_err-skip_comment-clause-word c =
    let p = err_from_is_err_and c.from_residual.result c.from_residual.ensures.1 in
    let same = c.next_run.ensures.text ∙ c.loop-span.invariant.text in
    let opens : slice_range c.next_run.new.self.text.now c.in-Some.span.start c.in-Some.span.end ≡ opening = c.is_opening.ensures.0 c.if-is_opening.true in
    rw (p.1, p.2) (pass_fails c.args.self.now.text.now c.args.self.now.from c.loop-span.self.from c.in-Some.span c.next_run.new.self.from
    c.loop-span.invariant.passes (rw c.loop-span.invariant.text at c.in-Some.ensures.run) _ _ (rw same at opens) (rw same at c.in_err-skip_comment.ensures.end))

pub loop-span-preserved : goal.loop-span-preserved
loop-span-preserved c =
    let same = c.next_run.ensures.text ∙ c.loop-span.invariant.text in
    let opens : slice_range c.next_run.new.self.text.now c.in-Some.span.start c.in-Some.span.end ≡ opening = c.is_opening.ensures.0 c.if-is_opening.true in
    let skips : SkipsComment c.next_run.new.self.text.now c.next_run.new.self.from c.skip_comment.new.self.from = c.in_ok-skip_comment.ensures.end in
    let passed = pass_comment c.args.self.now.text.now c.args.self.now.from c.loop-span.self.from c.in-Some.span c.next_run.new.self.from
    c.loop-span.invariant.passes (rw c.loop-span.invariant.text at c.in-Some.ensures.run) c.skip_comment.new.self.from (rw same at opens) (rw same at skips) in
    grind (arith, common_steps, passed) steps 200000

pub returns-in-Some-kind-clause-word : goal.returns-in-Some-kind-clause-word
returns-in-Some-kind-clause-word c =
    let same = c.next_run.ensures.text ∙ c.loop-span.invariant.text in
    let is : word_kind (slice_range c.next_run.new.self.text.now c.in-Some.span.start c.in-Some.span.end) ≡ Some c.in-Some-kind.kind = sym c.kind.ensures ∙ c.in-Some-kind.is in
    let run : TakesSpan c.loop-span.self.text.now c.loop-span.self.from c.in-Some.span c.next_run.new.self.from = c.in-Some.ensures.run in
    pass_word c.args.self.now.text.now c.args.self.now.from c.loop-span.self.from c.in-Some.span c.next_run.new.self.from c.loop-span.invariant.passes
    (rw c.loop-span.invariant.text at run) c.in-Some-kind.kind (rw same at is) (rw same at c.next_run.new.self.in_text) c.loop-span.invariant.forward
