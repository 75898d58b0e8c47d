use Rattle.mm_keep.proofs.HavingLemmas.{has_runs}
use Rattle.mm_keep.proofs.laws.has_list_of_runs.Goals as goal

pub returns : goal.returns
returns c = has_runs
