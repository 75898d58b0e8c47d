use Rattle.mm_frame.proofs.lemmas.base.StandingItems.{float_reads}
use Rattle.mm_frame.proofs.laws.floats_are_typings.Goals as goal

pub returns : goal.returns
returns c = float_reads
