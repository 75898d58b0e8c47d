use Rattle.mm_verdict.proofs.lemmas.decoding.ShortLemmas.{decodes_short}
use Rattle.mm_verdict.proofs.decoding_laws.decodes_short.Goals as goal

pub returns : goal.returns
returns c = decodes_short
