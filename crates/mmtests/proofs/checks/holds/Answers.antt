use Rattle.mmtests.proofs.ResultLemmas.{from_ok}
use Rattle.mmtests.proofs.checks.holds.Goals as goal

pub is_checked-requires : goal.is_checked-requires
is_checked-requires c =
    let base = from_ok _ _ _ c.in-Ok.is c.build-base.ensures.base in
    (base.0, record { base = base.2; each = base.1.each })
