use Rattle.mm_machine.proofs.lemmas.renaming.NumberingLemmas.{symbols_numbered}
use Rattle.mm_machine.proofs.numbering_laws.numbers_name_symbols.Goals as goal

pub returns : goal.returns
returns c = symbols_numbered
