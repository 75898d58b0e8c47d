use Rattle.mm_keep.proofs.RunLaws.{one_list}
use Rattle.mm_keep.proofs.laws.one_list_of_runs.Goals as goal

pub returns : goal.returns
returns c = one_list c.files_have_one_database.ensures
