use Rattle.mm_proof.proofs.ViewLemmas.{verdict_kept}
use Rattle.mm_proof.proofs.view_laws.same_view_same_verdict.Goals as goal

pub returns : goal.returns
returns c = verdict_kept c.mandatory_labels_mean.ensures c.same_decodes_same.ensures c.same_proof_same_verdict.ensures
