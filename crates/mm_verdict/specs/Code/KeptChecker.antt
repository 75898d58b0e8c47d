-- A base whose proofs are checked, as the code keeps it.
use Rattle.mm_frame.specs.declared.base.Base.{Base}
use Rattle.mm_verdict.specs.declared.checker.Checker.TheInside.{Inside}
use Rattle.mm_verdict.specs.Code.NamedItems.{AreKnownOf}

abbrev pub base_of : Inside → Base
base_of inside = inside.base.now

-- what is known is of it
abbrev pub AreOfBase : Inside → Type 0
AreOfBase inside = AreKnownOf inside.base.now inside.known
