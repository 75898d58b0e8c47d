use Rattle.mm_verdict.proofs.lemmas.decoding.GroupLemmas.{one_division}
use Rattle.mm_verdict.proofs.decoding_laws.has_one_division.Goals as goal

pub returns : goal.returns
returns c = one_division
