use Rattle.mm_keep.proofs.CitationLemmas.{themselves}
use Rattle.mm_keep.proofs.laws.axioms_have_themselves.Goals as goal

pub returns : goal.returns
returns c = themselves
