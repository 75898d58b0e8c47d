use Rattle.std.proofs.{Common.{rules, ◌∙◌, sym, inl}, lemmas.Bool.{not-false, not-true}}
use Rattle.mm_script.{specs.Language.Commands.{pending}, proofs.{GrowLemmas.{same_error}, EditLemmas.{plain_read, text_fails, text_line_last, text_read}}}
use Rattle.mm_script.proofs.edits.read_edit.Goals as goal

pub returns-in_default-clause-edit : goal.returns-in_default-clause-edit
returns-in_default-clause-edit g c =
    plain_read (pending c.args.input.now) _ c.args.line c.args.edit c.behind.result c.requires.says (sym c.text_of.ensures ∙ c.in_default.is) c.requires.line c.behind.ensures.fed c.behind.ensures.unfed

pub returns-then-not-line-clause-cut : goal.returns-then-not-line-clause-cut
returns-then-not-line-clause-cut g c = search (rules, not-true, text_line_last)

pub returns-in_err-read_text-clause-bad : goal.returns-in_err-read_text-clause-bad
returns-in_err-read_text-clause-bad g c = search (rules, not-false, same_error, text_fails)

pub returns-in_err-read_text-clause-cut : goal.returns-in_err-read_text-clause-cut
returns-in_err-read_text-clause-cut g c = λ cut.
    let ended = c.in_err-read_text.ensures.cut (same_error c.from_residual.result c.in_err-read_text.field-0.0 _ c.from_residual.ensures.1 cut) in (
      ended.1,
      inl ((text_fails c.args.input.now c.read_text.new.input _ _ c.args.line c.args.edit c.in-Some.text c.requires.says (sym c.text_of.ensures ∙ c.in-Some.is) c.requires.line
          c.in_err-read_text.ensures.grows (not-false _ c.if-not-line.false)).1 ended.0),
    )

pub returns-in_err-read_text-clause-read : goal.returns-in_err-read_text-clause-read
returns-in_err-read_text-clause-read g c = λ read.
    (text_fails c.args.input.now c.read_text.new.input _ _ c.args.line c.args.edit c.in-Some.text c.requires.says (sym c.text_of.ensures ∙ c.in-Some.is) c.requires.line
    c.in_err-read_text.ensures.grows (not-false _ c.if-not-line.false)).1 (c.in_err-read_text.ensures.read (same_error c.from_residual.result c.in_err-read_text.field-0.0 _ c.from_residual.ensures.1 read))

pub returns-clause-edit : goal.returns-clause-edit
returns-clause-edit g c =
    text_read c.args.input.now c.read_text.new.input _ _ c.args.line c.args.edit c.in-Some.text c.requires.says (sym c.text_of.ensures ∙ c.in-Some.is) c.requires.line
    c.in_ok-read_text.ensures.grows (not-false _ c.if-not-line.false) c.in_ok-read_text.ensures.feed
