use Rattle.std.proofs.{Common.{arith, slice_range, sym, ◌∙◌}, lemmas.{Grind.{common_steps}, Bool.{false≢true}}}
use Rattle.mm_text.{specs.{Language.Spelling.{HoldsMark}, Code.Reader.{SkipsPlain}}, proofs.{KindLemmas.{mark_stands, stands_mark}, ReaderLemmas.{skip_none, skip_more, skip_fault}}}
use Rattle.mm_text.proofs.SkipLemmas.{skip_all}
use Rattle.mm_text.proofs.reader.Reader.skip_comment.Goals as goal

pub loop-span-init : goal.loop-span-init
loop-span-init c =
    grind (arith, skip_all c.args.self.now.text.now c.args.self.now.from c.args.self.now.from c.skip_plain.new.self.from (skip_none c.args.self.now.text.now c.args.self.now.from) c.skip_plain.ensures.skips) steps 200000

pub returns-then-has_mark-clause-end : goal.returns-then-has_mark-clause-end
returns-then-has_mark-clause-end c = grind (arith, common_steps, false≢true, mark_stands, skip_fault) steps 200000

pub loop-span-preserved : goal.loop-span-preserved
loop-span-preserved c =
    let same = c.next_run.ensures.text ∙ c.loop-span.invariant.text in
    let none : ¬ HoldsMark (slice_range c.next_run.new.self.text.now c.in-Some.span.start c.in-Some.span.end) = λ h. false≢true (sym c.if-has_mark.false ∙ c.has_mark.ensures ∙ stands_mark _ h) in
    let skips : SkipsPlain c.next_run.new.self.text.now c.next_run.new.self.from c.skip_plain-in-Some.new.self.from = c.skip_plain-in-Some.ensures.skips in
    let more = skip_more c.args.self.now.text.now c.args.self.now.from c.loop-span.self.from c.in-Some.span c.next_run.new.self.from c.loop-span.invariant.skips
    (rw c.loop-span.invariant.text at c.in-Some.ensures.run) (rw same at none) in
    let all = skip_all c.args.self.now.text.now c.args.self.now.from c.next_run.new.self.from c.skip_plain-in-Some.new.self.from more (rw same at skips) in
    grind (arith, common_steps, all) steps 200000
