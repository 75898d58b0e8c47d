use Rattle.mm_text.proofs.{UnitFaultLemmas.{one_unit_fault, whole_has_no_fault}, UnitScanLemmas.{whole_or_fault}}
use Rattle.mm_text.proofs.laws.one_unit_fault.Goals as goal

pub returns : goal.returns
returns c = record { some = whole_or_fault; fault = one_unit_fault; not_both = whole_has_no_fault }
