use Rattle.mm_machine.proofs.lemmas.verdicts.OneVerdict.{same_verdict}
use Rattle.mm_machine.proofs.verdict_laws.has_one_verdict.Goals as goal

pub returns : goal.returns
returns c = same_verdict
