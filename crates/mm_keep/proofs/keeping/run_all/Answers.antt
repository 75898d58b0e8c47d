use Rattle.mm_keep.proofs.RunLemmas.{begun_runs}
use Rattle.mm_keep.proofs.keeping.run_all.Goals as goal

pub returns : goal.returns
returns c view is =
    let plan = c.in_ok-plan.ensures in
    let ran = (rw plan at c.in_ok-checked.ensures.checked) view is in
    let recorded = (rw plan at c.in_ok-checked.ensures.work) view is in
    record { checked = record { count = ran.1; each = ran.0 }; runs = begun_runs view c.in_ok-checked.work.runs recorded.those; steps = recorded.steps }
