use Rattle.mm_script.proofs.ScriptLemmas.{divisions_agree as law}
use Rattle.mm_script.proofs.laws.divisions_agree.Goals as goal

pub returns : goal.returns
returns c = law
