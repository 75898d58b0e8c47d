use Rattle.std.proofs.{Common.{arith, ◌≡◌, true, inl, inr, sym, ◌∙◌, subst}, lemmas.{Grind.{common_steps}, Bool.{false≢true, or_cases}, Option.{same_Some}}}
use Rattle.mm_proof.{specs.Code.InStep.{ordinal}, proofs.InStepLemmas.{in_step_behind, in_step_labels, stepped}}
use Rattle.mm_proof.proofs.marks.marked.Goals.{then-step, else-step, then-placed, else-placed, then-placed-2, else-placed-2, then-not-alike, else-not-alike}
use Rattle.mm_proof.proofs.marks.marked.Goals as goal

pub returns-clause-mark : goal.returns-clause-mark
returns-clause-mark c names base copy f g =
    let mark = c.in_ok-mark.mark in
    stepped base copy c.args.j mark.old mark.frame mark.pairs mark.in_step c.if-step.placed (c.in_ok-mark.ensures.mark names base copy f g)

pub returns-clause-labels : goal.returns-clause-labels
returns-clause-labels c t names base copy f g i h label unchanged = elim c.if-step.branch [
  | then-step w ↦
      let j = c.args.j in
      let is = c.in_ok-mark.ensures.mark names base copy f g in
      let found = w.keeps_place-placed.ensures (sym w.placed-is ∙ t) c.args.bases.old.now c.requires.ordinals names base copy f g is h.is in
      let both = found.1 in
      let same = same_Some found.0 i (sym ((is.old_is found.0).1 both.one_label) ∙ (is.old_is i).1 h) in
      let level = subst (λ n. ordinal base n ≡ ordinal copy j) same both.ordinal_is in
      let laws = c.labels_mean.ensures in
      in_step_labels base copy i j h.was h.is level laws.one laws.assertions c.args.changed.now (c.requires.step.in_step w.if-step.true names base copy f g) label unchanged
  | else-step w ↦ absurd (false≢true (sym (w.placed-is ∙ w.if-step.false) ∙ t))
]

-- what is listed as changed has its place, and so has what is alike
is_placed : (c : goal.After-step_behind-next) → c.if-not-alike.here ≡ true → c.if-step.placed ≡ true
is_placed c e = grind (arith, common_steps, then-not-alike, then-placed-2, else-placed-2, false≢true, else-not-alike) steps 1000000

alike_placed : (c : goal.After-step_behind-next) → c.if-placed.alike ≡ true → c.if-step.placed ≡ true
alike_placed c e = grind (arith, common_steps, then-placed, else-placed, false≢true) steps 1000000

pub returns-clause-step : goal.returns-clause-step
returns-clause-step c = record {
  in_step = λ t names base copy f g. rw c.step_behind-next.ensures.1 (
      let is = c.in_ok-mark.ensures.mark names base copy f g in
      in_step_behind base copy c.args.changed.now c.args.j c.if-not-alike.here c.if-step.placed c.if-placed.alike c.step_behind-next.result.in_step (is_placed c) (
      λ e. elim (or_cases c.if-placed.alike c.if-not-alike.here (sym c.step_behind-next.ensures.0 ∙ e)) [
        | inl a ↦ inr (alike_placed c a, a)
        | inr h ↦ inl h
      ]) (
      λ e. elim c.if-step.branch [
        | then-step w ↦ (c.requires.step.in_step w.if-step.true names base copy f g, w.keeps_place-placed.ensures (sym w.placed-is ∙ e) c.args.bases.old.now c.requires.ordinals names base copy f g is)
        | else-step w ↦ absurd (false≢true (sym (w.placed-is ∙ w.if-step.false) ∙ e))
      ]) (
      λ e. elim c.if-placed.branch [
        | then-placed w ↦ w.is_alike-alike.ensures (sym w.alike-is ∙ e) c.in_ok-mark.ensures.kept names base copy f g is
        | else-placed w ↦ absurd (false≢true (sym (w.alike-is ∙ w.if-placed.false) ∙ e))
      ]) t);
}
