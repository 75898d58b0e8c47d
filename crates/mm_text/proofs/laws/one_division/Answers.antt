use Rattle.mm_text.proofs.UnitDivisionLemmas.{one_division, one_shapes}
use Rattle.mm_text.proofs.laws.one_division.Goals as goal

pub returns-clause-units : goal.returns-clause-units
returns-clause-units c a b f g e = one_division a b f g e

pub returns-clause-shapes : goal.returns-clause-shapes
returns-clause-shapes c a b f g e = one_shapes a b f g e
