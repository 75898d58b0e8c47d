use Rattle.std.proofs.{Common.{arith}, lemmas.Grind.{common_steps}}
use Rattle.mm_store.proofs.lemmas.edits.EditLemmas.{no_member}
use Rattle.mm_store.proofs.files.Files.placed.Goals as goal

pub returns-then-not-is_among-clause-err : goal.returns-then-not-is_among-clause-err
returns-then-not-is_among-clause-err c = grind (arith, common_steps, c.is_among.ensures.1, no_member) steps 200000
