use Rattle.std.proofs.Common.{ℕ, refl}
use Rattle.mm_proof.proofs.MeaningLemmas.{kept_means, means_same, none_means, new_framed, old_carries, old_framed}
use Rattle.mm_frame.specs.declared.base.Resolved.TheVariants as answers
use Rattle.mm_proof.proofs.view.same_by.Goals as goal

pub returns-in-Some : goal.returns-in-Some
returns-in-Some c base copy f g are =
    let two = c.args.two in
    let label = c.args.label.now in
    let m = c.in-Some.m in
    let carrier = (c.in-Some.ensures copy m (two.names.now, g)).0 refl in
    let told = c.keeps.ensures c.if-keeps.true in
    (λ t. kept_means c.labels_mean.ensures.assertions base copy c.args.marks.now are two.i two.j label m told.2.0 carrier told.0 told.1 told.2.1 told.2.2, λ s. refl)

pub returns-in-Some-2 : goal.returns-in-Some-2
returns-in-Some-2 c base copy f g are =
    let names = c.args.two.names.now in
    let label = c.args.label.now in
    let marks = c.args.marks.now in
    let m = c.in-Some.m in
    let found = λ (n : ℕ). c.in-Some.ensures copy n (names, g) in
    let carrier = (found m).0 refl in
    c.same_marked.ensures base copy f g are label carrier
    (c.meaning_of-mine.ensures base label (names, f) (rw c.old.ensures (old_carries base copy marks are label m carrier)) (rw (c.same-framed.ensures, c.old.ensures) (old_framed base copy marks are m carrier.shown)))
    (c.meaning_of-yours.ensures copy label (names, g) found (rw c.same-framed.ensures (new_framed base copy marks are m carrier.shown)))

pub returns-in-None : goal.returns-in-None
returns-in-None c base copy f g are =
    let two = c.args.two in
    let label = c.args.label.now in
    let unknown = none_means copy label (λ n. c.in-None.ensures copy n (two.names.now, g)) c.kept_next.ensures two.j in
    means_same base copy two.i two.j label c.resolve.result answers.Unknown c.same_meaning.result (c.resolve.ensures base (two.names.now, f)) unknown (c.same_meaning.ensures base copy f g)
