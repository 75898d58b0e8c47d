use Rattle.std.proofs.Common.{refl}
use Rattle.mm_proof.proofs.{TheoremLemmas.{framed_proof}, MeaningLemmas.{hypotheses_marked}}
use Rattle.mm_proof.proofs.view.same_but_active.Goals as goal

pub returns-in-Some : goal.returns-in-Some
returns-in-Some c base copy f g these =
    let are = (rw c.in-Some.is at c.requires) base copy f g in
    let marked = c.is_frame_marked.ensures.0 c.if-is_frame_marked.true in
    (λ e. hypotheses_marked base copy c.in-Some.marks.now are c.args.two.i c.args.two.j these marked.0 marked.1, λ s. refl)

pub returns-in_default : goal.returns-in_default
returns-in_default c base copy f g these =
    let parts = c.same_but_pairs.ensures c.args.two.names.now base copy f g (framed_proof base c.args.two.i these.was) (framed_proof copy c.args.two.j these.is) in
    (λ e. (let same = parts.0 e in record { expression = same.0; hypotheses = same.1 }), λ s. parts.1 (s.expression, s.hypotheses))
