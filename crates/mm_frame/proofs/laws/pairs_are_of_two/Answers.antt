use Rattle.mm_frame.proofs.lemmas.base.StandingItems.{pairs_are_of_two}
use Rattle.mm_frame.proofs.laws.pairs_are_of_two.Goals as goal

pub returns : goal.returns
returns c = pairs_are_of_two
