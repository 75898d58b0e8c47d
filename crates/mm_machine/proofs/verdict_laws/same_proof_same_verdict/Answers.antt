use Rattle.mm_machine.proofs.lemmas.verdicts.Moving.{verdict_moved}
use Rattle.mm_machine.proofs.verdict_laws.same_proof_same_verdict.Goals as goal

pub returns : goal.returns
returns c = verdict_moved
