use Rattle.mm_keep.proofs.DerivableLemmas.{proved_is_derivable}
use Rattle.mm_keep.proofs.laws.proved_is_derivable.Goals as goal

pub returns : goal.returns
returns c = proved_is_derivable c.proved_is_derived_at.ensures
