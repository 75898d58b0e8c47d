use Rattle.mm_verdict.proofs.lemmas.decoding.NumberLemmas.{each_written}
use Rattle.mm_verdict.proofs.decoding_laws.each_is_written.Goals as goal

pub returns : goal.returns
returns c = each_written
