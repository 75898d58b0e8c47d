use Rattle.mm_verdict.proofs.lemmas.citing.RiseLemmas.{rises}
use Rattle.mm_verdict.proofs.decoding_laws.cites_rise.Goals as goal

pub returns : goal.returns
returns c = rises
