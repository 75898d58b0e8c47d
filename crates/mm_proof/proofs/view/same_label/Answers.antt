use Rattle.mm_proof.proofs.MeaningLemmas.{means_same}
use Rattle.mm_proof.proofs.view.same_label.Goals as goal

pub returns-in-None : goal.returns-in-None
returns-in-None c base copy f g =
    let two = c.args.two in
    means_same base copy two.i two.j c.args.label.now c.resolve.result c.resolve-in-None.result c.same_meaning.result
    (c.resolve.ensures base (two.names.now, f)) (c.resolve-in-None.ensures copy (two.names.now, g)) (c.same_meaning.ensures base copy f g)
