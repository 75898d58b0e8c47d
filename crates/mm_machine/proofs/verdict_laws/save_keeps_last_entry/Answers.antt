use Rattle.mm_machine.proofs.lemmas.verdicts.Weights.{last_part_is}
use Rattle.mm_machine.proofs.verdict_laws.save_keeps_last_entry.Goals as goal

pub returns : goal.returns
returns c = last_part_is
