use Rattle.std.proofs.{Common.{sym, ◌∙◌}, lemmas.Bool.{false≢true}}
use Rattle.mm_frame.proofs.lemmas.frames.SameFrames.{framed_shown}
use Rattle.mm_frame.proofs.same.same_but_pairs.Goals as goal

pub returns-then-same_expression : goal.returns-then-same_expression
returns-then-same_expression c names base copy is are s t =
    let one = c.same_expression.ensures names base copy is are (framed_shown base c.args.i s) (framed_shown copy c.args.j t) in
    let hypotheses = c.same_mandatory_hypotheses.ensures names base copy is are s t in
    (λ b. (one.0 c.if-same_expression.true, hypotheses.0 b), λ p. hypotheses.1 p.1)

pub returns-else-same_expression : goal.returns-else-same_expression
returns-else-same_expression c names base copy is are s t =
    (λ b. absurd (false≢true (sym c.if-same_expression.false ∙ b)), λ p. (c.same_expression.ensures names base copy is are (framed_shown base c.args.i s) (framed_shown copy c.args.j t)).1 p.0)
