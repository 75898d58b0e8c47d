use Rattle.std.proofs.{lemmas.{Grind.{common_steps}, List.{length_push}}, Common.{◌≡◌, ◌+◌, None, List, [], length, refl, sym, ◌∙◌, ap, subst, arith, get_or}}
use Rattle.mm_keep.{specs.Code.{KeptCheck.{Kept}, Planned.{AreRecorded, AreRunBy, IsRunBy}}, proofs.RunLemmas.{run_more, recorded_more, takes, those_none}}
use Rattle.mm_keep.proofs.planning.run_rest.Goals as goal

pub loop-j-init : goal.loop-j-init
loop-j-init c =
    let made = c.in_ok-checked.ensures in
    let work = c.in_ok-work.ensures in
    record {
      base = c.new-checker.ensures;
      count = ap length made;
      room = omega (arith, ap (λ w. w.room) work);
      steps = omega (arith, ap (λ w. w.steps) work);
      checked = λ view is j one there. grind (arith, common_steps, made) steps 200000;
      recorded = λ view is. rw work (record { those = those_none _; steps = record { counts = []; each = tt; total_is = refl } });
    }

pub loop-j-preserved : goal.loop-j-preserved
loop-j-preserved c =
    let j = c.loop-j.j in
    let plan = c.args.plan.now in
    let from = c.at.result in
    let added = c.in_ok-run_of.ensures.one in
    let has = c.requires.read in
    let taken = takes has.0 from j c.loop-j.work c.run_of.new.work (c.in_ok-run_of.ensures.work has.0 has.1) in
    let same = c.loop-j.invariant.count in
    let there = sym c.at.ensures in
    record {
      base = c.in_ok-run_of.ensures.base ∙ c.loop-j.invariant.base;
      count = ap length added.1 ∙ length_push c.loop-j.checked added.0 ∙ ap (λ n. n + 1) same;
      room = omega (arith, taken.1, c.loop-j.invariant.room);
      steps = omega (arith, taken.0, c.loop-j.invariant.steps);
      checked = λ view is.
          subst (λ (xs : List Kept). AreRunBy view plan xs) (sym added.1)
          (run_more view plan c.loop-j.checked from added.0 (c.loop-j.invariant.checked view is) (ap (λ n. get_or plan n None) same ∙ there) (subst (λ i. IsRunBy view from i added.0) (sym same) (added.2 view is)));
      recorded = λ view is. recorded_more view plan j from c.loop-j.work c.run_of.new.work there (c.in_ok-run_of.ensures.work view is) (c.loop-j.invariant.recorded view is);
    }

pub returns-clause-checked : goal.returns-clause-checked
returns-clause-checked c view is =
    (c.loop-j.invariant.checked view is, omega (arith, c.loop-j.invariant.count, c.count-count.ensures.count view (c.args.names.now, is.base), c.loop-j-test.false))

pub returns-clause-work : goal.returns-clause-work
returns-clause-work c view is =
    let e : c.loop-j.j ≡ length view = omega (arith, c.count-count.ensures.count view (c.args.names.now, is.base), c.loop-j-test.false) in
    subst (λ n. AreRecorded view c.args.plan.now n c.loop-j.work) e (c.loop-j.invariant.recorded view is)
