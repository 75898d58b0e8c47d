use Rattle.std.proofs.{Common.{get_or, arith}, lemmas.Grind.{common_steps}}
use Rattle.mm_frame.proofs.lemmas.base.RowLemmas.{no_row, row_at, flag_within}
use Rattle.mm_frame.proofs.item_rows.Rows.label.Goals as goal

pub returns-then-not-is_labelled : goal.returns-then-not-is_labelled
returns-then-not-is_labelled c = grind (arith, common_steps, row_at, get_or, no_row) steps 200000

pub returns : goal.returns
returns c = grind (arith, common_steps, flag_within, row_at, get_or) steps 200000
