use Rattle.mm_frame.proofs.lemmas.pairs.PlaceLemmas.{PlacedTo}
use Rattle.mm_frame.proofs.places.Places.of.Given as goal

abbrev pub invariant-loop-n : goal.invariant-loop-n
invariant-loop-n l = PlacedTo l.n l.symbols (record { places = l.places })
