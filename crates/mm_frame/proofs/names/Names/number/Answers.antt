use Rattle.std.proofs.Common.{subst, ap, ◌∙◌}
use Rattle.mm_machine.specs.Language.Names.{AreDistinct}
use Rattle.mm_frame.{specs.Code.Numbers.{number_in}, proofs.lemmas.names.NumberLemmas.{distinct_names, number_by_keys}}
use Rattle.mm_frame.proofs.names.Names.number.Goals as goal

pub returns-clause-number : goal.returns-clause-number
returns-clause-number c = c.get_index_of.ensures.index ∙ number_by_keys c.args.name.now c.self.inside.names.keys ∙ ap (λ names. number_in names c.args.name.now) c.self.view_is

pub returns-clause-distinct : goal.returns-clause-distinct
returns-clause-distinct c = subst AreDistinct c.self.view_is (distinct_names c.self.inside.names.keys c.self.invariant.once)
