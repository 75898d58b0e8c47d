use Rattle.mm_report.proofs.InOrderLemmas.{clean_is_derived}
use Rattle.mm_report.proofs.laws.clean_is_derived.Goals as goal

pub returns : goal.returns
returns c = clean_is_derived c.proved_is_derivable.ensures
