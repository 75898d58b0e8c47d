use Rattle.mm_verdict.proofs.lemmas.decoding.ReadOnLemmas.{reads_on}
use Rattle.mm_verdict.proofs.decoding_laws.letters_read_on.Goals as goal

pub returns : goal.returns
returns c = reads_on
