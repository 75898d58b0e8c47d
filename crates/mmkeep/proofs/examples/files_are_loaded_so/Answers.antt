use Rattle.std.proofs.Common.{rules}
use Rattle.mmkeep.proofs.LoadingExampleLemmas.{fault_stops, has_fault_there, loop_is_loaded, opens_known}
use Rattle.mmkeep.proofs.examples.files_are_loaded_so.Goals as goal

pub returns : goal.returns
returns c = search (rules, fault_stops, has_fault_there, loop_is_loaded, opens_known)
