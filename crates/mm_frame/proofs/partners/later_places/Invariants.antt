use Rattle.std.proofs.Common.{◌≡◌, flat_map, take}
use Rattle.mm_frame.specs.Code.KeptPlaces.{later_places_at}
use Rattle.mm_frame.proofs.partners.later_places.Given as goal

abbrev pub invariant-loop-number : goal.invariant-loop-number
invariant-loop-number l = l.found.items ≡ flat_map (later_places_at l.places l.blocks l.expressions l.from) (take l.number-index l.row)
