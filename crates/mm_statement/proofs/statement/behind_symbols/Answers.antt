use Rattle.mm_statement.{specs.Language.Statement.{kind_of}, proofs.SpokenLemmas.{behind_one, behind_closing}}
use Rattle.mm_statement.proofs.statement.behind_symbols.Goals as goal

pub returns-clause-rest : goal.returns-clause-rest
returns-clause-rest c =
    let behind = c.read_label.new.words.words in
    let first = c.next_word.new.self.words in
    let keyword = behind_one behind first c.next_word.result c.next_word.ensures.word in
    behind_closing (kind_of c.args.kind) c.args.words.text c.args.words.words behind first c.pass_symbols.new.words.words c.read_label.result c.read_label.ensures.label keyword c.pass_symbols.ensures.rest
