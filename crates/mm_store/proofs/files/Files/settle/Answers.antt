use Rattle.std.proofs.{Common.{arith}, lemmas.Grind.{common_steps}}
use Rattle.mm_store.proofs.lemmas.{files.{MapLemmas.{get_drop_other}, PieceLemmas.{text_drop_other}}, edits.UndoLemmas.{undo_is}}
use Rattle.mm_store.proofs.files.Files.settle.Goals as goal

pub returns-in-Replaced-clause-keeps : goal.returns-in-Replaced-clause-keeps
returns-in-Replaced-clause-keeps c = grind (arith, common_steps, undo_is, get_drop_other, text_drop_other) steps 200000
