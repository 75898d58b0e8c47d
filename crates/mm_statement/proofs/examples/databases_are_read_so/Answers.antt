use Rattle.mm_statement.proofs.ExampleLemmas.{loop_gives_nine, loop_is_cut}
use Rattle.mm_statement.proofs.examples.databases_are_read_so.Goals as goal

pub returns : goal.returns
returns c = record { nine = loop_gives_nine; cut = loop_is_cut }
