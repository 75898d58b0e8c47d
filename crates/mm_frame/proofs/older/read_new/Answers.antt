use Rattle.mm_frame.proofs.lemmas.names.NumberLemmas.{begins_on}
use Rattle.mm_frame.proofs.older.read_new.Goals as goal

pub returns-clause-read : goal.returns-clause-read
returns-clause-read c =
    let names = c.read_numbered.new.names in
    let grows = c.in_ok-statement.ensures.grows in
    let numbers = c.in_ok-statement.ensures.numbers in (
      c.in_ok-statement.statement,
      c.in_ok-statement.ensures.says,
      λ said stands all distinct more.
          c.in_ok-add_numbered.ensures all said (stands names c.distinct.ensures grows) (stands all distinct (begins_on _ _ _ grows more)) (numbers names (λ n name there. there)) (numbers all more),
    )
