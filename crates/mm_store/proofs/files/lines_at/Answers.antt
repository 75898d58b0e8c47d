use Rattle.std.proofs.{lemmas.{Grind.{common_steps}, List.{length-map, length-take, get_or-map}}, Common.{arith}}
use Rattle.mm_store.proofs.lemmas.places.PlaceLemmas.{piece_within}
use Rattle.mm_store.proofs.files.lines_at.Goals as goal

pub then-requires : goal.then-requires
then-requires c = grind (arith, common_steps, get_or-map, length-map, length-take, piece_within) steps 200000
