use Rattle.mm_statement.proofs.LocatedLemmas.{items_located, items_kept}
use Rattle.mm_statement.proofs.laws.items_are_located.Goals as goal

pub returns-clause-located : goal.returns-clause-located
returns-clause-located c = items_located c.stretches_stand_alone.ensures c.one_meaning.ensures.words (c.items_stand.ensures.read, c.items_stand.ensures.stand)

pub returns-clause-kept : goal.returns-clause-kept
returns-clause-kept c = items_kept c.stretches_stand_alone.ensures (c.items_stand.ensures.read, c.items_stand.ensures.stand)
