use Rattle.mm_script.proofs.ScriptReadingLemmas.{has_reading as law}
use Rattle.mm_script.proofs.laws.has_reading.Goals as goal

pub returns : goal.returns
returns c = law
