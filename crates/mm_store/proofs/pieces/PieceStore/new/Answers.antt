use Rattle.std.proofs.{Common.{arith}, lemmas.{Grind.{common_steps}, Option.{none-some}}}
use Rattle.mm_store.proofs.lemmas.files.StoreLemmas.{nothing_parked}
use Rattle.std.specs.FinMap as finite
use Rattle.mm_store.proofs.pieces.PieceStore.new.Goals as goal

pub invariant_of-result : goal.invariant_of-result
invariant_of-result c = grind (arith, common_steps, finite.from_entries, none-some, nothing_parked) steps 200000
