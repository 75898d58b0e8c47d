use Rattle.std.proofs.{Common.{rules}, lemmas.Option.{slice_get_within, get_or_from_slice_get}}
use Rattle.mm_machine.proofs.lemmas.machine.SlotLemmas.{typing_slot}
use Rattle.mm_machine.proofs.taken.variable_of.Goals as goal

pub index-requires : goal.index-requires
index-requires g c = search (rules, slice_get_within, typing_slot)

pub returns : goal.returns
returns g c v at = search (rules, get_or_from_slice_get, typing_slot)
