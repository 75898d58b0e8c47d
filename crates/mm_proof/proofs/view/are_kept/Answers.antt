use Rattle.std.proofs.{Common.{List, ℕ, length, subst}, lemmas.Option.{slice_get_within}}
use Rattle.mm_proof.{specs.Code.TwoTheorems.{AreUnnamed}, proofs.{InStepLemmas.{in_step_kept}, UnnamedLemmas.{all_named, all_with, none_changed, not_true}}}
use Rattle.mm_proof.proofs.view.are_kept.Goals as goal

pub returns-then-is_in_step : goal.returns-then-is_in_step
returns-then-is_in_step c said says t base copy f g are =
    let two = c.args.two in
    let marks = c.args.marks.now in
    let marked = c.is_in_step.ensures.0 c.if-is_in_step.true in
    let unnamed = subst (λ (changed : List ℕ). AreUnnamed two said.proof changed (length changed)) c.changed.ensures (c.may_name_any.ensures said says (not_true c.may_name_any.result t)) in
    let none = none_changed copy marks.changed two.j said.proof (
    λ label told. unnamed told.place told.m (slice_get_within marks.changed told.place told.m told.told) told.told copy (two.names.now, g) told.earlier label
    told.label_is) in
    all_named _ said.proof (all_with _ _ (in_step_kept base copy marks are two.i two.j marked.0 marked.1) said.proof none)
