use Rattle.mm_machine.proofs.lemmas.machine.KeyOrderLemmas.{numbered_in_order}
use Rattle.mm_machine.proofs.numbering_laws.numbers_keep_order.Goals as goal

pub returns : goal.returns
returns c = numbered_in_order
