use Rattle.mm_text.proofs.CutLawLemmas.{one_unit_of_cut, units_of_cut}
use Rattle.mm_text.proofs.laws.one_unit_of_cut.Goals as goal

pub returns : goal.returns
returns c = record { unit = one_unit_of_cut; same = λ text piece tail units is_cut. units_of_cut text piece tail is_cut units }
