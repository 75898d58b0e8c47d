use Rattle.std.{proofs.{Common.{arith, ◌≡◌, ℕ, List, get_or, subst}, lemmas.Grind.{elements}}, specs.List.{AllZip}}
use Rattle.mm_machine.specs.{Language.{Frame.{Symbol, Frame, Setting}, Expansion.{Step, NotKnown}, NamedSteps.{meant, IsUseWithin, MeansUse}}, declared.{step.Action.{Action}, named.Use.{Use}}}
use Rattle.mm_machine.proofs.lemmas.machine.StepLemmas.{push_means, cite_means, nothing_means}
use Rattle.mm_machine.specs.declared.step.Action.TheVariants as actions
use Rattle.mm_machine.proofs.stepping.task_of.Goals as goal

-- what a use means, said of the action that it comes from
of_action :
    (expressions : List (List Symbol)) (frames : List Frame) (place : Setting) (names : List Step) (action : Action) (k : ℕ) (used found : Use) (all : List Use) →
    action ≡ actions.Label k → used ≡ found → AllZip (MeansUse expressions frames place) all names →
    (AllZip (MeansUse expressions frames place) all names → MeansUse expressions frames place used (get_or names k NotKnown)) →
    MeansUse expressions frames place found (meant names action)
of_action expressions frames place names action k used found all is same zip means = grind (arith, elements) steps 200000

pub returns-in-Lasting-clause-means : goal.returns-in-Lasting-clause-means
returns-in-Lasting-clause-means c es fs place names all =
    push_means es fs place c.in-Lasting.n (meant names c.args.action)
    (of_action es fs place names c.args.action c.in-Label.k c.use_of.result _ c.args.uses.now c.in-Label.is c.in-Lasting.is all (c.use_of.ensures.means es fs place names))

pub returns-in-Assertion-clause-means : goal.returns-in-Assertion-clause-means
returns-in-Assertion-clause-means c es fs place names all =
    cite_means es fs place c.in-Assertion.n (meant names c.args.action)
    (of_action es fs place names c.args.action c.in-Label.k c.use_of.result _ c.args.uses.now c.in-Label.is c.in-Assertion.is all (c.use_of.ensures.means es fs place names))

pub returns-in-Nothing-clause-means : goal.returns-in-Nothing-clause-means
returns-in-Nothing-clause-means c es fs place names all =
    nothing_means es fs place (meant names c.args.action)
    (of_action es fs place names c.args.action c.in-Label.k c.use_of.result _ c.args.uses.now c.in-Label.is c.in-Nothing.is all (c.use_of.ensures.means es fs place names))

pub returns-in-Lasting-clause-within : goal.returns-in-Lasting-clause-within
returns-in-Lasting-clause-within c lasting assertions saves uses saved = subst (IsUseWithin lasting assertions) c.in-Lasting.is (c.use_of.ensures.within lasting assertions uses)

pub returns-in-Assertion-clause-within : goal.returns-in-Assertion-clause-within
returns-in-Assertion-clause-within c lasting assertions saves uses saved = subst (IsUseWithin lasting assertions) c.in-Assertion.is (c.use_of.ensures.within lasting assertions uses)
