use Rattle.mm_machine.proofs.lemmas.renaming.RenamingLemmas.{keeps_verdicts}
use Rattle.mm_machine.proofs.verdict_laws.renaming_keeps_verdicts.Goals as goal

pub returns : goal.returns
returns c = keeps_verdicts
