use Rattle.mm_machine.proofs.lemmas.machine.Substituted.{only_mandatory}
use Rattle.mm_machine.proofs.verdict_laws.only_mandatory_count.Goals as goal

pub returns : goal.returns
returns c = only_mandatory
