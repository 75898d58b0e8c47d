use Rattle.std.proofs.{Common.{arith, sym, ◌∙◌}, lemmas.Grind.{common_steps}}
use Rattle.mm_frame.specs.Language.{Base.{before, said_at, is_shown_at}, Framing.{expression}}
use Rattle.mm_proof.{specs.Language.BaseMarks.{HaveOneLabel}, proofs.KeptMarkLemmas.{shown_label, one_label, none_shown, some_shown, no_number}}
use Rattle.mm_proof.proofs.marks.old_of.Goals as goal

pub returns-in_err-expression : goal.returns-in_err-expression
returns-in_err-expression c names base copy f g i = grind (arith, common_steps, c.in_err-expression.ensures.symbols names copy g, no_number, none_shown) steps 200000

pub returns-in_err-label : goal.returns-in_err-label
returns-in_err-label c names base copy f g i =
    let j = c.args.j in
    no_number c.from_residual-in_err-label.result i (HaveOneLabel base copy i j) c.from_residual-in_err-label.ensures (λ h. (
    let label = shown_label names copy c.args.new.now j g h.is in
    let none = c.in_err-label.ensures copy (names, g) ∙ label.1 in
    cc))

pub returns : goal.returns
returns c names base copy f g i =
    let j = c.args.j in
    let shown = some_shown (is_shown_at copy j) (expression (before copy j) (said_at copy j)) _ (c.in_ok-expression.ensures.symbols names copy g) in
    let both = one_label base copy i j c.in_ok-label.field-0.now shown (sym (c.in_ok-label.ensures copy (names, g))) in
    let found = c.find.ensures base i (names, f) in
    (λ e. both.0 (found.0 e), λ h. found.1 (both.1 h))
