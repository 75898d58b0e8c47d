use Rattle.mm_keep.specs.Language.Findings.{counted}
use Rattle.mm_report.specs.Code.Written.{AreWrittenUpTo}
use Rattle.mm_script.specs.Language.Stream.{written}
use Rattle.mm_report.proofs.report.write_lines.Given as goal

abbrev pub invariant-loop-i : goal.invariant-loop-i
invariant-loop-i g l = AreWrittenUpTo l.session l.i (written g.W.Write.contents l.initial.to) (written g.W.Write.contents l.to) (counted l.tally)
