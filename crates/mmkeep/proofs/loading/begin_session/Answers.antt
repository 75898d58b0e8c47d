use Rattle.mmkeep.proofs.LoadLemmas.{is_memory}
use Rattle.mmkeep.proofs.loading.begin_session.Goals as goal

pub not_begun-requires : goal.not_begun-requires
not_begun-requires g c = is_memory c.in-Err.unbegun.fault c.in-Err.ensures.told (λ e. c.requires.top (c.in-Err.ensures.no_top.0 e))
