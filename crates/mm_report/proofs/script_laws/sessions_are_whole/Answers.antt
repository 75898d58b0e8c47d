use Rattle.mm_report.proofs.script_laws.sessions_are_whole.Goals as goal

pub returns : goal.returns
returns c = record { units = rw c.files.ensures.files at c.hold_one_each.ensures; items = (c.count.ensures.count.0, c.count.ensures.count.1) }
