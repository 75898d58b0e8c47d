use Rattle.std.proofs.Common.{◌∙◌, ap, length, subst}
use Rattle.mm_frame.specs.Code.Numbers.{AreNameNumbers}
use Rattle.mm_frame.proofs.draft.read_numbered.Goals as goal

pub returns-clause-count : goal.returns-clause-count
returns-clause-count c = c.in_ok-number_all.ensures.count ∙ ap length c.read-statement.ensures.symbols

pub returns-clause-numbers : goal.returns-clause-numbers
returns-clause-numbers c all begins = subst (AreNameNumbers all c.number_all.new.numbers.items) c.read-statement.ensures.symbols (c.in_ok-number_all.ensures.numbers all begins)
