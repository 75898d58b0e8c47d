use Rattle.mm_statement.proofs.{LocatedLemmas.{one_list}, NameLemmas.{walk_takes, expansion_takes}}
use Rattle.mm_statement.proofs.laws.names_are_taken.Goals as goal

pub returns-clause-one : goal.returns-clause-one
returns-clause-one c = one_list c.stretches_stand_alone.ensures c.edits_keep_units.ensures.keys c.walks_go_on.ensures.names

pub returns-clause-walk : goal.returns-clause-walk
returns-clause-walk c = walk_takes (record { words = c.one_meaning.ensures.words; units = c.one_division.ensures.units }) c.databases_are_there.ensures

pub returns-clause-end : goal.returns-clause-end
returns-clause-end c = expansion_takes (record { words = c.one_meaning.ensures.words; units = c.one_division.ensures.units }) c.databases_are_there.ensures
