use Rattle.mm_script.proofs.ScriptLawLemmas.{readings}
use Rattle.mm_script.proofs.laws.one_reading.Goals as goal

pub returns-clause-reading : goal.returns-clause-reading
returns-clause-reading c = readings
