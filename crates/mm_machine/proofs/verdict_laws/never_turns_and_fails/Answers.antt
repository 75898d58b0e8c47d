use Rattle.mm_machine.proofs.lemmas.machine.Turning.{no_turn}
use Rattle.mm_machine.proofs.verdict_laws.never_turns_and_fails.Goals as goal

pub returns : goal.returns
returns c = λ place is s after step number t h. no_turn place is s after step number h t
