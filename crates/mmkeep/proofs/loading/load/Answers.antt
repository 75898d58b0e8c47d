use Rattle.std.proofs.Common.{ap, ◌∙◌}
use Rattle.mm_report.specs.mm_store.Language.FileFacts.{parked_in}
use Rattle.mmkeep.proofs.LoadLemmas.{nothing_parked}
use Rattle.mmkeep.proofs.loading.load.Goals as goal

pub returns-in-Ok-clause-parked : goal.returns-in-Ok-clause-parked
returns-in-Ok-clause-parked g c = c.in-Ok.ensures.parked ∙ ap parked_in c.new-files.ensures ∙ nothing_parked
