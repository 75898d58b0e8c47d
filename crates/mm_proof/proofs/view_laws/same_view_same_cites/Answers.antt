use Rattle.mm_proof.proofs.ViewLemmas.{cites_kept}
use Rattle.mm_proof.proofs.view_laws.same_view_same_cites.Goals as goal

pub returns : goal.returns
returns c = cites_kept c.mandatory_labels_mean.ensures c.same_cites_same.ensures
