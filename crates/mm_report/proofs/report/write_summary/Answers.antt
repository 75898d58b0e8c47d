use Rattle.mm_report.proofs.{ReportLemmas.{summary_parts}, StreamLemmas.{stops_front, stops_then, writes_then, writes_stop}}
use Rattle.mm_report.proofs.report.write_summary.Goals as goal

pub returns-in_err-write_count : goal.returns-in_err-write_count
returns-in_err-write_count g c =
    rw (summary_parts c.args.tally.now)
    (writes_stop c.from_residual.ensures.0 (stops_front _ c.in_err-write_count.ensures.err))

pub returns-in_err-write_count-2 : goal.returns-in_err-write_count-2
returns-in_err-write_count-2 g c =
    rw (summary_parts c.args.tally.now)
    (writes_stop c.from_residual-in_err-write_count-2.ensures.0 (stops_then c.in_ok-write_count.ensures (stops_front _ c.in_err-write_count-2.ensures.err)))

pub returns-in_err-write_count-3 : goal.returns-in_err-write_count-3
returns-in_err-write_count-3 g c =
    rw (summary_parts c.args.tally.now)
    (writes_stop c.from_residual-in_err-write_count-3.ensures.0 (stops_then c.in_ok-write_count.ensures (stops_then c.in_ok-write_count-2.ensures (stops_front _ c.in_err-write_count-3.ensures.err))))

pub returns-in_err-write_count-4 : goal.returns-in_err-write_count-4
returns-in_err-write_count-4 g c =
    rw (summary_parts c.args.tally.now)
    (writes_stop c.from_residual-in_err-write_count-4.ensures.0 (stops_then c.in_ok-write_count.ensures (stops_then c.in_ok-write_count-2.ensures (stops_then c.in_ok-write_count-3.ensures (stops_front _ c.in_err-write_count-4.ensures.err)))))

pub returns-in_err-write_count-5 : goal.returns-in_err-write_count-5
returns-in_err-write_count-5 g c =
    rw (summary_parts c.args.tally.now)
    (writes_stop c.from_residual-in_err-write_count-5.ensures.0 (stops_then c.in_ok-write_count.ensures (stops_then c.in_ok-write_count-2.ensures
    (stops_then c.in_ok-write_count-3.ensures (stops_then c.in_ok-write_count-4.ensures (stops_front _ c.in_err-write_count-5.ensures.err))))))

pub returns-in_err-write_count-6 : goal.returns-in_err-write_count-6
returns-in_err-write_count-6 g c =
    rw (summary_parts c.args.tally.now)
    (writes_stop c.from_residual-in_err-write_count-6.ensures.0 (stops_then c.in_ok-write_count.ensures (stops_then c.in_ok-write_count-2.ensures
    (stops_then c.in_ok-write_count-3.ensures (stops_then c.in_ok-write_count-4.ensures (stops_then c.in_ok-write_count-5.ensures (stops_front _ c.in_err-write_count-6.ensures.err)))))))

pub returns : goal.returns
returns g c =
    rw (summary_parts c.args.tally.now)
    (writes_then c.in_ok-write_count.ensures (writes_then c.in_ok-write_count-2.ensures (writes_then c.in_ok-write_count-3.ensures (writes_then c.in_ok-write_count-4.ensures
    (writes_then c.in_ok-write_count-5.ensures (writes_then c.in_ok-write_count-6.ensures c.write_all.ensures.writes))))))
