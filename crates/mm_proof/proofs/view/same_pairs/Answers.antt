use Rattle.mm_proof.proofs.MeaningLemmas.{pairs_marked}
use Rattle.mm_proof.proofs.view.same_pairs.Goals as goal

pub returns-in-Some : goal.returns-in-Some
returns-in-Some c base copy f g these =
    let are = (rw c.in-Some.is at c.requires) base copy f g in
    pairs_marked base copy c.in-Some.marks.now are c.args.two.i c.args.two.j c.same_pairs.result these (c.is_marked.ensures.0 c.if-is_marked.true) c.same_pairs.ensures

pub returns-in_default : goal.returns-in_default
returns-in_default c base copy f g these = c.same_active_pairs.ensures c.args.two.names.now base copy f g these.was these.is
