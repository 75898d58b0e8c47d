use Rattle.std.proofs.Common.{subst}
use Rattle.mm_machine.specs.Language.Keys.{AreInKeyOrder, key_by_number}
use Rattle.mmtests.proofs.SpelledLemmas.{order_by_name}
use Rattle.mmtests.proofs.machines.spelled_parts.Goals as goal

pub returns-clause-order : goal.returns-clause-order
returns-clause-order c =
    order_by_name c.in_ok-spelled_pairs.field-0.items c.in_ok-spelled_pairs.ensures.keys (subst (AreInKeyOrder key_by_number) c.in_ok-spelled_pairs.ensures.means c.requires)
