use Rattle.mm_machine.proofs.lemmas.verdicts.Weights.{weight_of_suffix}
use Rattle.mm_machine.proofs.verdict_laws.shorter_weighs_less.Goals as goal

pub returns : goal.returns
returns c = weight_of_suffix
