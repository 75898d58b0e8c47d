use Rattle.std.proofs.{Common.{arith}, lemmas.Grind.{common_steps}}
use Rattle.mm_frame.proofs.lemmas.base.RowLemmas.{rows_length}
use Rattle.mm_frame.proofs.item_rows.Rows.count.Goals as goal

pub returns : goal.returns
returns c = grind (arith, common_steps, rows_length) steps 200000
