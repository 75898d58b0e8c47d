use Rattle.std.proofs.{Common.{arith}, lemmas.Grind.{common_steps}}
use Rattle.mm_frame.proofs.lemmas.base.{RowLemmas.{flag_within, row_at, shown_none}, BaseLemmas.{none_found}}
use Rattle.mm_frame.proofs.item_rows.Rows.is_shown.Goals as goal

pub returns-then-not-is_labelled : goal.returns-then-not-is_labelled
returns-then-not-is_labelled c = grind (arith, common_steps, shown_none) steps 200000

pub returns : goal.returns
returns c = grind (arith, common_steps, none_found, flag_within, row_at) steps 200000
