use Rattle.mm_machine.proofs.lemmas.verdicts.OneVerdict.{some_verdict}
use Rattle.mm_machine.proofs.verdict_laws.has_verdict.Goals as goal

pub returns : goal.returns
returns c = some_verdict
