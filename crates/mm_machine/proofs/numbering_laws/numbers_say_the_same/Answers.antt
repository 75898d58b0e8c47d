use Rattle.mm_machine.proofs.lemmas.renaming.RenamedFrames.{run_named}
use Rattle.mm_machine.proofs.numbering_laws.numbers_say_the_same.Goals as goal

pub returns : goal.returns
returns c = run_named
