use Rattle.std.proofs.Common.{rules, ◌≡◌, drop}
use Rattle.mm_statement.{specs.Language.Statement.{kind_of, symbols_from}, proofs.{SpokenLemmas.{behind_label, behind_one, few_from, names_from}, statement.Statement.read.Goals.{After-next_word}}}
use Rattle.mm_statement.proofs.statement.Statement.read.Goals as goal

-- the words after the label and the keyword
first_from : (c : After-next_word) → c.next_word.new.self.words ≡ drop (symbols_from (kind_of c.args.item.now.kind)) c.words_of-words.result.1.words
first_from c = search (rules, behind_label, behind_one)

pub new-requires-clause-few : goal.new-requires-clause-few
new-requires-clause-few c =
    let words = c.words_of-words.result.1 in
    few_from c.words_of-words.result.0.now words c.next_word.new.self.words (symbols_from (kind_of c.args.item.now.kind)) c.words_of-words.ensures.words (first_from (goal.at.new-requires-clause-few c).After-next_word)

pub returns-clause-symbols : goal.returns-clause-symbols
returns-clause-symbols c = search (rules, first_from, names_from)
