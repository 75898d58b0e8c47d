use Rattle.std.proofs.{Common.{◌∙◌, refl, sym, subst, take_all, Contains}, lemmas.Bool.{false≢true}}
use Rattle.mm_frame.proofs.lemmas.pairs.SharedPairs.{element_there, either_way_more}
use Rattle.mm_frame.proofs.same.has_each.Goals as goal

pub returns-then-not-has_either_way : goal.returns-then-not-has_either_way
returns-then-not-has_either_way c = (
  λ t. absurd (false≢true t),
  λ h. sym c.if-not-has_either_way.true ∙ c.has_either_way.ensures.1 (h _ (element_there c.args.pairs.now c.loop-pair.pair-index _ c.loop-pair-test.true)),
)

pub loop-pair-preserved : goal.loop-pair-preserved
loop-pair-preserved c = either_way_more c.args.list.now c.args.pairs.now c.loop-pair.pair-index _ c.loop-pair-test.true c.loop-pair.invariant (c.has_either_way.ensures.0 c.if-not-has_either_way.false)

pub returns : goal.returns
returns c = (λ t p there. c.loop-pair.invariant p (subst (λ w. Contains w p) (sym (take_all c.loop-pair.pair-index c.args.pairs.now c.loop-pair-test.false)) there), λ h. refl)
