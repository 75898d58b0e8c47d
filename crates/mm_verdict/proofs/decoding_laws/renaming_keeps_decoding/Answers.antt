use Rattle.mm_verdict.proofs.lemmas.renaming.RenamedDecoding.{keeps_decoding}
use Rattle.mm_verdict.proofs.decoding_laws.renaming_keeps_decoding.Goals as goal

pub returns : goal.returns
returns c = keeps_decoding
