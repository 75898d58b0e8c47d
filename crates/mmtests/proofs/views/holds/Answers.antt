use Rattle.mmtests.proofs.ResultLemmas.{from_ok}
use Rattle.mmtests.proofs.views.holds.Goals as goal

pub is_compared-holds-requires-clause-one : goal.is_compared-holds-requires-clause-one
is_compared-holds-requires-clause-one c =
    let one = from_ok _ _ _ c.in-Ok-Ok.is-0 c.build-one.ensures.base in
    let other = from_ok _ _ _ c.in-Ok-Ok.is-1 c.build-other.ensures.base in
    (one.0, record { base = one.3 c.build-other.new.names other.2.distinct c.build-other.ensures.grows; each = one.1.each })

pub is_compared-holds-requires-clause-other : goal.is_compared-holds-requires-clause-other
is_compared-holds-requires-clause-other c =
    let other = from_ok _ _ _ c.in-Ok-Ok.is-1 c.build-other.ensures.base in
    (other.0, record { base = other.2; each = other.1.each })
