use Rattle.mm_machine.proofs.lemmas.verdicts.OneVerdict.{proved_derived}
use Rattle.mm_machine.proofs.verdict_laws.proved_is_derived.Goals as goal

pub returns : goal.returns
returns c = proved_derived
