use Rattle.mm_store.proofs.ExampleLemmas.{ring_gives_three}
use Rattle.mm_store.proofs.examples.rings_are_read_so.Goals as goal

pub returns : goal.returns
returns c = ring_gives_three
