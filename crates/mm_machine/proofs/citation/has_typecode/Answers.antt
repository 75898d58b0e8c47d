use Rattle.std.proofs.{Common.{rules}, lemmas.Option.{same_Some}}
use Rattle.mm_machine.proofs.lemmas.machine.FlatLemmas.{range_first}
use Rattle.mm_machine.proofs.citation.has_typecode.Goals as goal

pub returns : goal.returns
returns g c = search (rules, range_first, same_Some)
