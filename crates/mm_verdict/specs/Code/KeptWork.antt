-- What the code keeps of runs and of what was checked.
use Rattle.mm_verdict.specs.declared.work.Work.TheInside.{Inside as Work}
use Rattle.mm_verdict.specs.declared.work.Checked.TheInside.{Inside as Checked}
use Rattle.mm_verdict.specs.Language.Work.{Recorded, Judgement}

abbrev pub recorded : Work → Recorded
recorded inside = record { runs = inside.runs.items; steps = inside.steps; room = inside.room }

abbrev pub judgement : Checked → Judgement
judgement inside = record { verdict = inside.verdict; cites = inside.cites.items }
