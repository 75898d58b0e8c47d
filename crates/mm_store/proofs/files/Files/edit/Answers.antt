use Rattle.std.proofs.{Common.{arith}, lemmas.Grind.{common_steps}}
use Rattle.mm_store.proofs.{lemmas.edits.BatchLemmas.{parks_more}, files.Files.edit.Goals.{in-Ok, in_default}}
use Rattle.mm_store.proofs.files.Files.edit.Goals as goal

pub returns-clause-parked : goal.returns-clause-parked
returns-clause-parked c = grind (arith, common_steps, in-Ok, in_default, parks_more) steps 200000
