use Rattle.std.proofs.{Common.{◌+◌, length, ◌∙◌, ap, arith}, lemmas.List.{length_push}}
use Rattle.mm_keep.{specs.Code.Planned.{IsPlanned}, proofs.PlanLemmas.{planned_more}}
use Rattle.mm_keep.proofs.planning.planned.Goals as goal

pub loop-j-preserved : goal.loop-j-preserved
loop-j-preserved c =
    let from = c.old_with_same_view-from.result in
    record {
      count = ap length c.in_ok-add.ensures.ok ∙ length_push c.loop-j.plan from ∙ ap (λ n. n + 1) c.loop-j.invariant.count;
      each = λ base copy both.
          planned_more (IsPlanned base copy) c.loop-j.plan _ from c.loop-j.j c.in_ok-add.ensures.ok c.loop-j.invariant.count (c.loop-j.invariant.each base copy both)
          (c.old_with_same_view-from.ensures base copy both);
    }

pub returns : goal.returns
returns c base copy both j l = c.loop-j.invariant.each base copy both j (omega (arith, l, c.count-count.ensures.count copy (c.args.names.now, both.new_is.base), c.loop-j-test.false))
