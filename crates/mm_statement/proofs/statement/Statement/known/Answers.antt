use Rattle.mm_statement.proofs.statement.Statement.known.Goals as goal

pub invariant_of-result : goal.invariant_of-result
invariant_of-result c = record { words = c.words_of-words.ensures.words; label = c.requires.label _ c.words_of-words.ensures.says }
