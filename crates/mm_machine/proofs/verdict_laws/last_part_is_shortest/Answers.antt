use Rattle.mm_machine.proofs.lemmas.verdicts.Weights.{last_part_shortest}
use Rattle.mm_machine.proofs.verdict_laws.last_part_is_shortest.Goals as goal

pub returns : goal.returns
returns c = last_part_shortest
