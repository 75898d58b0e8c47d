use Rattle.std.proofs.Common.{rules}
use Rattle.mm_verdict.proofs.assertion.expression.Goals as goal

pub returns : goal.returns
returns c names view is shown =
    search (rules, c.numbers_name_symbols.ensures names is.distinct c.known_expression.result.now (c.known_expression.ensures.numbered names view is), c.known_expression.ensures.symbols names view is shown) steps 500000
