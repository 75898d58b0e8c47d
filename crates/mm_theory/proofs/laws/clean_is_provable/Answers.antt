use Rattle.mm_theory.proofs.Clean
use Rattle.mm_theory.proofs.laws.clean_is_provable.Goals as goal

pub returns : goal.returns
returns c = Clean.clean_is_provable c.files_have_one_database.ensures c.chains_lead_back.ensures c.proved_is_provable.ensures
