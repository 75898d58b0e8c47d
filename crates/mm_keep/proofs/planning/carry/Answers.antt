use Rattle.std.proofs.Common.{◌≡◌, ◌<◌, length, sym, ◌∙◌, subst, arith}
use Rattle.mm_keep.{specs.Code.Planned.{IsPlanned}, proofs.CarryLemmas.{AreCarried, carried_lengths, carried_one, carried_all, new_some, old_some}}
use Rattle.mm_keep.proofs.planning.carry.Goals as goal

pub carry_one-requires-clause-from : goal.carry_one-requires-clause-from
carry_one-requires-clause-from c i e =
    let can = c.requires.2 in
    old_some c.requires.0 c.requires.1 c.args.old.now c.args.plan.now c.args.new.now can c.loop-j.j i c.loop-j.old c.loop-j.new (c.loop-j.invariant.carried c.requires.0 c.requires.1 can)
    (omega (arith, can.count, c.loop-j-test.true)) (sym c.at.ensures ∙ e) c.loop-j.invariant.count

pub carry_one-requires-clause-item : goal.carry_one-requires-clause-item
carry_one-requires-clause-item c i e =
    let can = c.requires.2 in
    new_some c.requires.0 c.requires.1 c.args.plan.now c.loop-j.j i c.loop-j.old c.loop-j.new (c.loop-j.invariant.carried c.requires.0 c.requires.1 can)
    (sym c.at.ensures ∙ e) (omega (arith, c.loop-j.invariant.long, c.loop-j-test.true))

pub loop-j-preserved : goal.loop-j-preserved
loop-j-preserved c =
    let longs = carried_lengths c.at.result c.loop-j.j c.loop-j.old c.loop-j.new c.carry_one.new.old c.carry_one.new.new c.carry_one.ensures.nothing c.carry_one.ensures.moved in
    record {
      count = longs.0 ∙ c.loop-j.invariant.count;
      long = longs.1 ∙ c.loop-j.invariant.long;
      carried = λ base copy can.
          let l : c.loop-j.j < length copy = omega (arith, can.count, c.loop-j-test.true) in
          carried_one c.labels_are_own.ensures c.same_view_same_verdict.ensures c.same_view_same_cites.ensures base copy c.args.old.now c.args.plan.now c.args.new.now can
          c.loop-j.j c.loop-j.old c.loop-j.new c.carry_one.new.old c.carry_one.new.new (c.loop-j.invariant.carried base copy can) l (omega (arith, c.loop-j.invariant.long, c.loop-j-test.true)) _ (sym c.at.ensures)
          (λ i e.
          let kept = subst (IsPlanned base copy c.loop-j.j) (sym c.at.ensures ∙ e) (can.planned c.loop-j.j l) in
          omega (arith, kept.within, can.was.count, c.loop-j.invariant.count))
          c.carry_one.ensures.nothing c.carry_one.ensures.moved;
    }

pub returns : goal.returns
returns c base copy can =
    let e : c.loop-j.j ≡ length copy = omega (arith, can.count) in
    let carried = subst (λ n. AreCarried base copy c.args.plan.now n c.loop-j.old c.loop-j.new) e (c.loop-j.invariant.carried base copy can) in
    carried_all base copy c.args.old.now c.args.plan.now c.args.new.now can c.loop-j.old c.loop-j.new carried (omega (arith, c.loop-j.invariant.long))
