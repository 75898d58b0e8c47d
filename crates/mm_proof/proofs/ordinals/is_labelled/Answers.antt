use Rattle.std.proofs.{Common.{arith}, lemmas.Grind.{common_steps}}
use Rattle.mm_frame.specs.Language.{Base.{before, said_at, is_shown_at}, Framing.{expression}}
use Rattle.mm_proof.proofs.InStepLemmas.{told_shown}
use Rattle.mm_proof.proofs.ordinals.is_labelled.Goals as goal

pub returns : goal.returns
returns c view is =
    grind (arith, common_steps, told_shown _ c.expression.result (is_shown_at view c.args.n) (expression (before view c.args.n) (said_at view c.args.n)) (c.expression.ensures.symbols is.0 view is.1)) steps 200000
