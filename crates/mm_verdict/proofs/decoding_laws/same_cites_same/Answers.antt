use Rattle.mm_verdict.proofs.lemmas.views.SameCites.{cites_same}
use Rattle.mm_verdict.proofs.decoding_laws.same_cites_same.Goals as goal

pub returns : goal.returns
returns c = cites_same
