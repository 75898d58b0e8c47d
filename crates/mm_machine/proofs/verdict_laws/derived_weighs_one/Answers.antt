use Rattle.mm_machine.proofs.lemmas.verdicts.Weights.{weight_of_derived}
use Rattle.mm_machine.proofs.verdict_laws.derived_weighs_one.Goals as goal

pub returns : goal.returns
returns c = weight_of_derived
