use Rattle.std.proofs.{Common.{rules}, lemmas.List.{length-map, map-append}}
use Rattle.mm_machine.proofs.lemmas.machine.FlatLemmas.{mapped_at}
use Rattle.mm_machine.proofs.machine.Machine.push_lasting.Goals as goal

pub returns-clause-stack : goal.returns-clause-stack
returns-clause-stack g c h at = search (rules, length-map, map-append, mapped_at)
