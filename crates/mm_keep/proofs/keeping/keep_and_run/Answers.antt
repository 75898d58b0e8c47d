use Rattle.std.proofs.Common.{rules}
use Rattle.mm_keep.proofs.RunLemmas.{planned_runs}
use Rattle.mm_keep.proofs.keeping.keep_and_run.Goals as goal

pub returns : goal.returns
returns c view copy both =
    let planned = c.in_ok-plan.ensures view copy both in
    let ran = c.in_ok-checked.ensures.checked copy both.new_is in
    let recorded = c.in_ok-checked.ensures.work copy both.new_is in
    search (rules, planned_runs view copy c.in_ok-plan.plan c.in_ok-checked.work.runs planned recorded.those) steps 500000
