use Rattle.mm_text.proofs.{CutLawLemmas.{one_cut, one_first_fault, cut_has_no_fault}, CutWalkLemmas.{cut_or_fault}}
use Rattle.mm_text.proofs.laws.one_cut.Goals as goal

pub returns : goal.returns
returns c = record { some = cut_or_fault; cut = one_cut; fault = one_first_fault; not_both = cut_has_no_fault }
