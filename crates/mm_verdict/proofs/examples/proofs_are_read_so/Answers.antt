use Rattle.mm_verdict.proofs.ExampleLemmas.{is_proved}
use Rattle.mm_verdict.proofs.examples.proofs_are_read_so.Goals as goal

pub returns-clause-verdict : goal.returns-clause-verdict
returns-clause-verdict c = is_proved
