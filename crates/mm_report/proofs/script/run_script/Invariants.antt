use Rattle.mm_report.specs.Code.Answered.{HasAnswered}
use Rattle.mm_script.specs.Language.{Commands.{to_come, pending}, Stream.{unread, written}}
use Rattle.mm_report.proofs.script.run_script.Given as goal

abbrev pub invariant-loop-input : goal.invariant-loop-input
invariant-loop-input g l =
    HasAnswered l.initial.session l.session (unread g.R.Read.remaining l.initial.reading) (unread g.R.Read.remaining l.reading)
    (written g.W.Write.contents l.initial.writing) (written g.W.Write.contents l.writing) (pending l.input)

abbrev pub decreases-loop-input : goal.decreases-loop-input
decreases-loop-input g l = to_come l.input l.reading
