use Rattle.mm_store.proofs.lemmas.expansion.StandLemmas.{expansion_read, expansion_stands}
use Rattle.mm_store.proofs.laws.items_stand.Goals as goal

pub returns-clause-read : goal.returns-clause-read
returns-clause-read c files top items holds is = expansion_read c.parts_are_texts.ensures files holds top items is

pub returns-clause-stand : goal.returns-clause-stand
returns-clause-stand c files top items is = expansion_stands c.parts_are_texts.ensures files top items is
