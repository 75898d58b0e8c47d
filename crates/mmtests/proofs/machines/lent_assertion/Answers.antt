use Rattle.std.proofs.Common.{refl}
use Rattle.mmtests.proofs.machines.lent_assertion.Goals as goal

pub returns : goal.returns
returns c lasting so = so _ refl c.deref.ensures.value c.deref-2.ensures.value
