use Rattle.mm_text.proofs.PositionLemmas.{first_fault_lies}
use Rattle.mm_text.proofs.laws.first_faults_are_within.Goals as goal

pub returns : goal.returns
returns c text fault h = first_fault_lies text fault h
