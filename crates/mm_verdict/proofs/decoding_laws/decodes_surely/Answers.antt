use Rattle.mm_verdict.proofs.lemmas.decoding.SureLemmas.{decodes_surely}
use Rattle.mm_verdict.proofs.decoding_laws.decodes_surely.Goals as goal

pub returns : goal.returns
returns c = decodes_surely c.sure_by_counting.ensures
