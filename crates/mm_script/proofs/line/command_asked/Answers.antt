use Rattle.std.proofs.Common.{◌∙◌, sym, refl}
use Rattle.mm_script.{specs.Code.Growing.{line_bytes}, proofs.LineLemmas.{no_command_by, says_question, unequal}}
use Rattle.mm_script.proofs.line.command_asked.Goals as goal

pub returns-in_err-edit_asked-clause-none : goal.returns-in_err-edit_asked-clause-none
returns-in_err-edit_asked-clause-none c = λ none.
    no_command_by (line_bytes c.args.bytes.now c.args.line) c.in_ok-word.word.now c.in_ok-word.rest.now c.in_ok-word.ensures.some
    (λ is. unequal _ _ c.if-eq.ensures (is ∙ sym c.as_slice.ensures)) (λ is. unequal _ _ c.if-eq-2.ensures (is ∙ sym c.as_slice-2.ensures))
    (c.question_of.ensures.none c.in_default.is) (c.edit_asked.ensures.none c.in_err-edit_asked.was)

pub returns-clause-some : goal.returns-clause-some
returns-clause-some c =
    says_question c.args.bytes.now _ c.args.line c.requires.line.1 c.in_ok-word.word.now c.in_ok-word.rest.now c.in_ok-word.ensures.some c.in-Some.question c.in-Some.ensures.some (c.if-not-is_name.ensures.yes refl)
