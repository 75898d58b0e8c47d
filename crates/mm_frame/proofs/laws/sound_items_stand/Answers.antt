use Rattle.mm_frame.proofs.lemmas.base.StandingItems.{shown_stands}
use Rattle.mm_frame.proofs.laws.sound_items_stand.Goals as goal

pub returns : goal.returns
returns c = shown_stands
