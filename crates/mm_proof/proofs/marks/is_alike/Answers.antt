use Rattle.std.proofs.{Common.{arith, inr, sym, ◌∙◌, ap, subst}, lemmas.{Grind.{common_steps}, Option.{none-some, same_Some}}}
use Rattle.mm_frame.specs.mm_machine.Language.Frame.{Mandatory}
use Rattle.mm_proof.{specs.Code.{InStep.{MeanOne}, KeptMarks.{kept_mark}}, proofs.InStepLemmas.{frame_kept}}
use Rattle.mm_proof.proofs.marks.is_alike.Goals as goal

pub returns-then-mark : goal.returns-then-mark
returns-then-mark c t kept names base copy f g is i h = grind (arith, common_steps, frame_kept base copy i c.args.j (kept_mark c.args.mark) is ((is.old_is i).1 h) c.if-mark.true) steps 200000

pub returns-then-mark-2 : goal.returns-then-mark-2
returns-then-mark-2 c t kept names base copy f g is i h =
    let j = c.args.j in
    let same = same_Some c.in-Some.i i (sym c.in-Some.is ∙ c.in_full_width.ensures ∙ (is.old_is i).1 h) in
    let one = kept c.if-mark-2.true c.in-Some.i (sym c.in_full_width.ensures ∙ c.in-Some.is) names base copy f g in
    subst (λ n. MeanOne base copy n j) same (inr (record { was = one.was; is = one.is; same = ap (λ (h : Mandatory). h.expression) one.same; end = c.end_alike.ensures t names base copy f g }))

pub returns-in-None : goal.returns-in-None
returns-in-None c t kept names base copy f g is i h = absurd (none-some i (sym c.in-None.is ∙ c.in_full_width.ensures ∙ (is.old_is i).1 h))
