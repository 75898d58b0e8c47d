use Rattle.mm_machine.proofs.lemmas.verdicts.Unique.{same_derived}
use Rattle.mm_machine.proofs.verdict_laws.derives_at_most_one.Goals as goal

pub returns : goal.returns
returns c = same_derived
