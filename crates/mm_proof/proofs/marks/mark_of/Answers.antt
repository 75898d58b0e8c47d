use Rattle.std.proofs.{Common.{false, Some, refl, sym, ◌∙◌, subst}, lemmas.Option.{same_Some}}
use Rattle.mm_proof.{specs.{Language.BaseMarks.{IsMark}, Code.KeptMarks.{IsOneHypothesis}}, proofs.KeptMarkLemmas.{nothing_kept, some_kept}}
use Rattle.mm_proof.proofs.marks.mark_of.Goals as goal

pub returns-in_default-clause-mark : goal.returns-in_default-clause-mark
returns-in_default-clause-mark c names base copy f g = nothing_kept base copy c.args.j (λ i h. c.in_default.not-Some i ((c.old_of.ensures names base copy f g i).1 h))

pub returns-clause-mark : goal.returns-clause-mark
returns-clause-mark c names base copy f g =
    let frame = c.in_ok-frame.frame in
    let pairs = c.in_ok-pairs.pairs in
    let is = some_kept base copy c.in-Some.i c.args.j frame pairs (λ k. c.in-Some.ensures names base copy f g k) (c.in_ok-frame.ensures.same names base copy f g) (c.in_ok-pairs.ensures.same names base copy f g) in
    subst (λ n. IsMark base copy c.args.j (record { old = Some n; frame = frame; pairs = pairs; in_step = false })) (sym c.in_ok-narrow.ensures.same) is

pub returns-clause-kept : goal.returns-clause-kept
returns-clause-kept c e i is names base copy f g =
    let shown = (c.in-Some.ensures names base copy f g c.in-Some.i).0 refl in
    subst (λ n. IsOneHypothesis base copy n c.args.j) (sym c.in_ok-narrow.ensures.same ∙ same_Some c.in_ok-narrow.field-0 i is) (c.same_hypothesis.ensures e names base copy f g shown.was shown.is)
