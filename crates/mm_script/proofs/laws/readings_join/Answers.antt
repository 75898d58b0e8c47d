use Rattle.mm_script.proofs.JoinLemmas.{entries_behind, reading_behind, so_far_behind}
use Rattle.mm_script.proofs.laws.readings_join.Goals as goal

pub returns : goal.returns
returns c = record { entries = entries_behind; reading = reading_behind; so_far = so_far_behind }
