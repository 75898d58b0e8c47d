use Rattle.mm_verdict.proofs.lemmas.decoding.OrderLemmas.{first_fault}
use Rattle.mm_verdict.proofs.decoding_laws.tells_first_fault.Goals as goal

pub returns : goal.returns
returns c = first_fault
