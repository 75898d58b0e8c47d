use Rattle.mm_keep.proofs.ChainLemmas.{leads_earlier}
use Rattle.mm_keep.proofs.laws.chains_lead_back.Goals as goal

pub returns : goal.returns
returns c base i k = leads_earlier base k i
