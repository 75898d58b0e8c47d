use Rattle.std.proofs.Common.{◌≡◌, ◌++◌, flat_map, take}
use Rattle.mm_frame.specs.Code.KeptPlaces.{pair_at}
use Rattle.mm_frame.proofs.partners.add_partners_at.Given as goal

abbrev pub invariant-loop-place : goal.invariant-loop-place
invariant-loop-place l = l.pairs.items ≡ l.initial.pairs.items ++ flat_map (pair_at l.first l.variables) (take l.place-index l.places)
