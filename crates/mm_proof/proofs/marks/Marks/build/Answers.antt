use Rattle.std.proofs.{Common.{rules, ◌≡◌, ◌+◌, ℕ, List, [], ◌∷◌, sym, ◌∙◌, ap, subst, arith, length}, lemmas.List.{length-append, map-append}}
use Rattle.mm_proof.specs.{Language.BaseMarks.{ItemMark, KeepsLabels}, Code.{InStep.{IsStepAt, changed_behind}, KeptMarks.{AreItemMarks, AreHypothesisMarks, kept_mark, kept_marks}}}
use Rattle.mm_proof.proofs.{KeptMarkLemmas.{kept_more, marked_behind, marked_more, all_marked}, marks.Marks.build.Goals.{then-next+in_ok-push-2, else-next}}
use Rattle.mm_proof.specs.declared.mark.Mark as code
use Rattle.mm_proof.proofs.marks.Marks.build.Goals as goal

pub marked-requires-clause-marks : goal.marked-requires-clause-marks
marked-requires-clause-marks c = subst (AreHypothesisMarks c.args.old.now c.args.new.now) (sym c.deref.ensures.value) c.loop-j.invariant.kept

pub marked-requires-clause-compared : goal.marked-requires-clause-compared
marked-requires-clause-compared c = c.loop-j.invariant.compared

-- what is listed as changed after the item
told_behind : (c : goal.Joined-next) → c.if-next.changed.items ≡ changed_behind c.loop-j.changed.items c.loop-j.j c.in_ok-mark.next.changed
told_behind c = elim c.if-next.branch [
  | then-next+in_ok-push-2 w ↦ ap (λ v. v.items) w.changed-is ∙ w.in_ok-push-2.ensures.items ∙ ap (changed_behind c.loop-j.changed.items c.loop-j.j) (sym w.if-next.true)
  | else-next w ↦ ap (λ v. v.items) w.changed-is ∙ ap (changed_behind c.loop-j.changed.items c.loop-j.j) (sym w.if-next.false)
]

pub loop-j-preserved : goal.loop-j-preserved
loop-j-preserved c = record {
  compared = c.in_ok-mark.ensures.compared;
  step = subst (λ (changed : List ℕ). IsStepAt c.args.old.now c.args.new.now changed (c.loop-j.j + 1) c.in_ok-mark.next)
      (ap (λ (changed : List ℕ). changed_behind changed c.loop-j.j c.in_ok-mark.next.changed) c.deref-in-loop-j.ensures.value ∙ sym (told_behind c)) c.in_ok-mark.ensures.step;
  count = ap length c.in_ok-push.ensures.items ∙ length-append c.loop-j.marks.items (c.in_ok-mark.mark ∷ []) ∙ ap (λ k. k + 1) c.loop-j.invariant.count;
  kept = subst (AreHypothesisMarks c.args.old.now c.args.new.now) (sym c.in_ok-push.ensures.items)
      (kept_more c.args.old.now c.args.new.now c.loop-j.marks.items c.in_ok-mark.mark c.loop-j.j c.loop-j.invariant.count c.loop-j.invariant.kept c.in_ok-mark.ensures.kept);
  marks = λ names base copy f g. (
      let j = c.loop-j.j in
      let old = c.loop-j.marks.items in
      let before = c.loop-j.changed.items in
      let mark = c.in_ok-mark.mark in
      let here = c.in_ok-mark.next.changed in
      let more = marked_more base copy j (kept_marks old) before (kept_mark mark) (c.loop-j.invariant.marks names base copy f g) (c.in_ok-mark.ensures.mark names base copy f g) (
      λ t. subst (λ (changed : List ℕ). KeepsLabels base copy changed j) c.deref-in-loop-j.ensures.value (c.in_ok-mark.ensures.labels t names base copy f g)) in
      let joined = subst (λ (ms : List ItemMark). AreItemMarks base copy (j + 1) (record { items = ms; changed = before })) (sym (map-append kept_mark old (mark ∷ []))) more in
      let pushed = subst (λ (ms : List code.Mark). AreItemMarks base copy (j + 1) (record { items = kept_marks ms; changed = before })) (sym c.in_ok-push.ensures.items) joined in
      subst (λ (changed : List ℕ). AreItemMarks base copy (j + 1) (record { items = kept_marks c.push.new.self.items; changed = changed })) (sym (told_behind c))
      (marked_behind base copy (j + 1) (kept_marks c.push.new.self.items) before j here pushed));
}

pub returns : goal.returns
returns c base copy f g =
    let count = c.count-j-end.ensures.count copy (c.args.names.now, g) in
    let all : c.loop-j.j ≡ length copy = omega (arith, count, c.loop-j.auto.j-end, c.loop-j-test.false) in
    all_marked base copy c.loop-j.j (record { items = kept_marks c.loop-j.marks.items; changed = c.loop-j.changed.items }) (c.loop-j.invariant.marks c.args.names.now base copy f g) all

pub loop-j-init : goal.loop-j-init
loop-j-init c = record {
  compared = c.new-compared.ensures c.args.old.now c.args.new.now;
  step = (search rules);
  count = (search rules);
  kept = (search rules);
  marks = (search rules);
}
