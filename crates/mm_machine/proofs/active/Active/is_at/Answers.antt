use Rattle.std.proofs.{Common.{rules}, lemmas.Bool.{false≢true}}
use Rattle.mm_machine.proofs.{lemmas.machine.FlatLemmas.{mapped_or}, active.Active.is_at.Goals.{then-is, else-is}}
use Rattle.mm_machine.proofs.active.Active.is_at.Goals as goal

pub returns-then-is-2 : goal.returns-then-is-2
returns-then-is-2 g c p at = search (rules, else-is, false≢true, mapped_or, then-is)

pub returns-then-is-3 : goal.returns-then-is-3
returns-then-is-3 g c p at = search (rules, else-is, false≢true, mapped_or, then-is)

pub returns-else-is-3 : goal.returns-else-is-3
returns-else-is-3 g c p at = search (rules, else-is, false≢true, mapped_or, then-is)
