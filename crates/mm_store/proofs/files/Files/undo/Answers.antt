use Rattle.std.proofs.{Common.{arith}, lemmas.Grind.{common_steps}}
use Rattle.mm_store.proofs.lemmas.edits.UndoLemmas.{keeps_undone}
use Rattle.mm_store.proofs.files.Files.undo.Goals as goal

pub returns-clause-keeps : goal.returns-clause-keeps
returns-clause-keeps c = grind (arith, common_steps, keeps_undone c.args.undo.file c.args.undo.action c.args.self.now) steps 200000
