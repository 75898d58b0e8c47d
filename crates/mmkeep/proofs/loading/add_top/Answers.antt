use Rattle.mmkeep.proofs.LoadLemmas.{file_there}
use Rattle.mmkeep.proofs.loading.add_top.Goals as goal

pub returns-in-Ok-clause-there : goal.returns-in-Ok-clause-there
returns-in-Ok-clause-there g c = file_there c.add_opened.result _ _ c.args.top.now _ c.add_opened.ensures.added
