use Rattle.std.proofs.{Common.{arith}, lemmas.{Grind.{common_steps}, Option.{slice_get_past}}}
use Rattle.mm_frame.proofs.lemmas.base.RowLemmas.{no_row, row_at}
use Rattle.mm_frame.proofs.item_rows.Rows.fault.Goals as goal

pub returns : goal.returns
returns c = grind (arith, common_steps, no_row, row_at, slice_get_past) steps 200000
