use Rattle.mm_verdict.proofs.lemmas.verdicts.NormalLemmas.{labels_are_a_proof}
use Rattle.mm_verdict.proofs.item_laws.labels_are_a_proof.Goals as goal

pub returns : goal.returns
returns c = labels_are_a_proof
