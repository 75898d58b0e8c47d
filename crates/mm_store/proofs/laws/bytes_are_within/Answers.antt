use Rattle.mm_store.proofs.lemmas.places.OffsetLemmas.{byte_within}
use Rattle.mm_store.proofs.laws.bytes_are_within.Goals as goal

pub returns : goal.returns
returns c = byte_within
