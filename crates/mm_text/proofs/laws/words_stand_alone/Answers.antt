use Rattle.mm_text.proofs.OwnWordLemmas.{own_alone, statement_alone}
use Rattle.mm_text.proofs.laws.words_stand_alone.Goals as goal

pub returns-clause-words : goal.returns-clause-words
returns-clause-words c = own_alone

pub returns-clause-statement : goal.returns-clause-statement
returns-clause-statement c = statement_alone
