use Rattle.mm_verdict.proofs.lemmas.views.SameLemmas.{decodes_same}
use Rattle.mm_verdict.proofs.decoding_laws.same_decodes_same.Goals as goal

pub returns : goal.returns
returns c = decodes_same
