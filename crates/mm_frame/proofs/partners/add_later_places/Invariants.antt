use Rattle.std.proofs.Common.{◌≡◌, ◌++◌, flat_map, take}
use Rattle.mm_frame.specs.Code.KeptPlaces.{later_place}
use Rattle.mm_frame.proofs.partners.add_later_places.Given as goal

abbrev pub invariant-loop-symbol : goal.invariant-loop-symbol
invariant-loop-symbol l = l.found.items ≡ l.initial.found.items ++ flat_map (later_place l.places l.from) (take l.symbol-index l.symbols)
