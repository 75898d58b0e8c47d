use Rattle.mm_machine.proofs.lemmas.machine.Turning.{turns_or_fails as lemma}
use Rattle.mm_machine.proofs.verdict_laws.turns_or_fails.Goals as goal

pub returns : goal.returns
returns c = lemma
