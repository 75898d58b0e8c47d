use Rattle.mm_keep.specs.mm_store.Language.FilesView.{plain}
use Rattle.mm_report.{specs.Language.Report.{names_of}, proofs.{ReportLemmas.{incomplete_parts}, StreamLemmas.{stops_front, stops_then, writes_then, writes_stop}}}
use Rattle.mm_report.proofs.report.write_incomplete.Goals as goal

pub returns-in_err-write_part : goal.returns-in_err-write_part
returns-in_err-write_part g c =
    rw (incomplete_parts (names_of (plain c.args.files.now)) c.args.label.now c.args.at)
    (writes_stop c.from_residual.ensures.0 (stops_front _ c.in_err-write_part.ensures.err))

pub returns-in_err-write_all : goal.returns-in_err-write_all
returns-in_err-write_all g c =
    rw (incomplete_parts (names_of (plain c.args.files.now)) c.args.label.now c.args.at)
    (writes_stop c.from_residual-in_err-write_all.ensures.0 (stops_then c.in_ok-write_part.ensures (stops_front _ c.in_err-write_all.ensures.writes.err)))

pub returns-in_err-write_place : goal.returns-in_err-write_place
returns-in_err-write_place g c =
    rw (incomplete_parts (names_of (plain c.args.files.now)) c.args.label.now c.args.at)
    (writes_stop c.from_residual-in_err-write_place.ensures.0 (stops_then c.in_ok-write_part.ensures (stops_then c.in_ok-write_all.ensures.writes (stops_front _ c.in_err-write_place.ensures.err))))

pub returns : goal.returns
returns g c =
    rw (incomplete_parts (names_of (plain c.args.files.now)) c.args.label.now c.args.at)
    (writes_then c.in_ok-write_part.ensures (writes_then c.in_ok-write_all.ensures.writes (writes_then c.in_ok-write_place.ensures c.write_all-2.ensures.writes)))
