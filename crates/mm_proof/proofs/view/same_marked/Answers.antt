use Rattle.mm_proof.proofs.MeaningLemmas.{frames_marked, means_same}
use Rattle.mm_proof.proofs.view.same_marked.Goals as goal

pub returns-in-Assertion-Assertion : goal.returns-in-Assertion-Assertion
returns-in-Assertion-Assertion c base copy f g are label carrier h k =
    let both = c.in-Assertion-Assertion in
    let two = c.args.two in
    frames_marked c.has_own_labels.ensures base copy c.args.marks.now are two.i two.j label c.args.m both.field-0-0 both.field-0-1 c.same.result carrier (rw both.is-0 at h) (rw both.is-1 at k) c.same.ensures

pub returns-in_default : goal.returns-in_default
returns-in_default c base copy f g are label carrier h k = means_same base copy c.args.two.i c.args.two.j label c.args.mine c.args.yours c.same_meaning.result h k (c.same_meaning.ensures base copy f g)
