use Rattle.std.proofs.{Common.{arith, ◌∙◌}, lemmas.{Grind.{elements}, Option.{same_Some}}}
use Rattle.mm_proof.proofs.view.may_name.Goals as goal

pub returns-in-Some : goal.returns-in-Some
returns-in-Some c said says none copy is earlier label e =
    grind (arith, elements, same_Some c.in-Some.label.now label (c.in-Some.ensures copy is ∙ e), c.has_bytes.ensures.absent none said says) steps 200000
