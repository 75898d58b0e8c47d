use Rattle.mm_verdict.proofs.lemmas.decoding.NumberLemmas.{numbers_apart}
use Rattle.mm_verdict.proofs.decoding_laws.numbers_are_apart.Goals as goal

pub returns : goal.returns
returns c = numbers_apart
