use Rattle.mm_text.proofs.PartWalkLemmas.{parts_read}
use Rattle.mm_text.proofs.laws.parts_are_texts.Goals as goal

pub returns : goal.returns
returns c text units has = parts_read text units has
