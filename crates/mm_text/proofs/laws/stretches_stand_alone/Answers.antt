use Rattle.mm_text.proofs.StretchLemmas.{stretch_alone}
use Rattle.mm_text.proofs.laws.stretches_stand_alone.Goals as goal

pub returns : goal.returns
returns c = stretch_alone
