use Rattle.std.proofs.Common.{rules}
use Rattle.mm_machine.proofs.lemmas.machine.{FlatLemmas.{behind_first}, GatherLemmas.{entry_gathered}}
use Rattle.mm_machine.proofs.gather.PairRoom.gather_entry.Goals as goal

pub returns-clause-gathers : goal.returns-clause-gathers
returns-clause-gathers g c = search (rules, behind_first, entry_gathered)
