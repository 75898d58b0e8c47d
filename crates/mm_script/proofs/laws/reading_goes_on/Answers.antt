use Rattle.mm_script.proofs.ScriptLawLemmas.{later, so_far}
use Rattle.mm_script.proofs.laws.reading_goes_on.Goals as goal

pub returns-clause-on : goal.returns-clause-on
returns-clause-on c = later

pub returns-clause-one : goal.returns-clause-one
returns-clause-one c = so_far
