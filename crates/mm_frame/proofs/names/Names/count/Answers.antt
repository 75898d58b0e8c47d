use Rattle.std.proofs.Common.{subst}
use Rattle.mm_machine.specs.Language.Names.{AreDistinct}
use Rattle.mm_frame.proofs.lemmas.names.NumberLemmas.{distinct_names}
use Rattle.mm_frame.proofs.names.Names.count.Goals as goal

pub returns-clause-distinct : goal.returns-clause-distinct
returns-clause-distinct c = subst AreDistinct c.self.view_is (distinct_names c.self.inside.names.keys c.self.invariant.once)
