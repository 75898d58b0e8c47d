use Rattle.std.proofs.{lemmas.Grind.{common_steps}, Common.{arith}}
use Rattle.mm_keep.specs.Language.Findings.{counted}
use Rattle.mm_report.proofs.WrittenLemmas.{summary_fails, report_written}
use Rattle.mm_report.proofs.report.write_report.Goals as goal

pub returns-in_err-write_summary-clause-prefix : goal.returns-in_err-write_summary-clause-prefix
returns-in_err-write_summary-clause-prefix g c =
    grind (arith, common_steps, summary_fails g.W.Write.contents c.args.session.now c.args.writing.now c.write_lines.new.to c.write_summary.new.to (counted c.in_ok-tally.tally) c.in_ok-tally.ensures.ok c.in_err-write_summary.ensures.err) steps 200000

pub returns-clause-report : goal.returns-clause-report
returns-clause-report g c =
    report_written g.W.Write.contents c.args.session.now c.args.writing.now c.write_lines.new.to c.write_summary.new.to (counted c.in_ok-tally.tally) c.in_ok-tally.ensures.ok c.in_ok-write_summary.ensures.ok
