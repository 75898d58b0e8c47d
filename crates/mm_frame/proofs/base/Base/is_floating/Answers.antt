use Rattle.std.{proofs.Common.{slice_get, sym, ap, ◌∙◌}, specs.Option.{option_map}}
use Rattle.mm_statement.specs.Language.Item.{Floating, is_kind}
use Rattle.mm_frame.proofs.lemmas.{base.AnswerLemmas.{float_none}, frames.FrameNumbers.{kind_at}}
use Rattle.mm_frame.proofs.base.Base.is_floating.Goals as goal

pub returns-in-Some : goal.returns-in-Some
returns-in-Some c base is =
    let kept = c.deref.ensures.value ∙ ap (λ a. a.items) c.self.view_is in
    let there = ap (λ w. slice_get w c.args.i) (sym kept) ∙ sym c.element_at.ensures ∙ ap (option_map (λ item. item.now)) c.in-Some.is in
    c.is_float.ensures ∙ ap (is_kind Floating) (kind_at c.args.self.now.items base c.args.i c.in-Some.item.now is.1.kinds there)

pub returns-in-None : goal.returns-in-None
returns-in-None c base is =
    let kept = c.deref.ensures.value ∙ ap (λ a. a.items) c.self.view_is in
    let there = ap (λ w. slice_get w c.args.i) (sym kept) ∙ sym c.element_at.ensures ∙ ap (option_map (λ item. item.now)) c.in-None.is in
    float_none c.args.self.now.items base c.args.i is.1.kinds there
