use Rattle.mm_verdict.proofs.FaultExampleLemmas.{lacks_entry, has_other_typecode, tells_lowest, is_other_essential, is_shared, is_no_active_pair, is_taken_with_pair, three_are_taken}
use Rattle.mm_verdict.proofs.FaultExampleLemmas.{four_are_too_many, saves_nothing, leaves_two, leaves_another, ends_at_unknown}
use Rattle.mm_verdict.proofs.examples.faults_are_read_so.Goals as goal

pub returns-clause-p07 : goal.returns-clause-p07
returns-clause-p07 c = lacks_entry

pub returns-clause-p08 : goal.returns-clause-p08
returns-clause-p08 c = has_other_typecode

pub returns-clause-lowest : goal.returns-clause-lowest
returns-clause-lowest c = tells_lowest

pub returns-clause-p09 : goal.returns-clause-p09
returns-clause-p09 c = is_other_essential

pub returns-clause-p10 : goal.returns-clause-p10
returns-clause-p10 c = is_shared

pub returns-clause-p11 : goal.returns-clause-p11
returns-clause-p11 c = is_no_active_pair

pub returns-clause-pair : goal.returns-clause-pair
returns-clause-pair c = is_taken_with_pair

pub returns-clause-longest : goal.returns-clause-longest
returns-clause-longest c = three_are_taken

pub returns-clause-p12 : goal.returns-clause-p12
returns-clause-p12 c = four_are_too_many

pub returns-clause-p13 : goal.returns-clause-p13
returns-clause-p13 c = saves_nothing

pub returns-clause-p14 : goal.returns-clause-p14
returns-clause-p14 c = leaves_two

pub returns-clause-p15 : goal.returns-clause-p15
returns-clause-p15 c = leaves_another

pub returns-clause-incomplete : goal.returns-clause-incomplete
returns-clause-incomplete c = ends_at_unknown
