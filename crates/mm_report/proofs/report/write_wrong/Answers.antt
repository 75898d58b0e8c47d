use Rattle.mm_keep.specs.mm_store.Language.FilesView.{plain}
use Rattle.mm_report.{specs.Language.Report.{names_of}, proofs.{ReportLemmas.{wrong_parts}, StreamLemmas.{stops_front, stops_then, writes_then, writes_stop}}}
use Rattle.mm_report.proofs.report.write_wrong.Goals as goal

pub returns-in_err-write_part : goal.returns-in_err-write_part
returns-in_err-write_part g c =
    rw (wrong_parts (names_of (plain c.args.files.now)) c.args.label.now c.args.number c.args.at)
    (writes_stop c.from_residual.ensures.0 (stops_front _ c.in_err-write_part.ensures.err))

pub returns-in_err-write_all : goal.returns-in_err-write_all
returns-in_err-write_all g c =
    rw (wrong_parts (names_of (plain c.args.files.now)) c.args.label.now c.args.number c.args.at)
    (writes_stop c.from_residual-in_err-write_all.ensures.0 (stops_then c.in_ok-write_part.ensures (stops_front _ c.in_err-write_all.ensures.writes.err)))

pub returns-in_err-write_place : goal.returns-in_err-write_place
returns-in_err-write_place g c =
    rw (wrong_parts (names_of (plain c.args.files.now)) c.args.label.now c.args.number c.args.at)
    (writes_stop c.from_residual-in_err-write_place.ensures.0 (stops_then c.in_ok-write_part.ensures (stops_then c.in_ok-write_all.ensures.writes (stops_front _ c.in_err-write_place.ensures.err))))

pub returns-in_err-write_part-2 : goal.returns-in_err-write_part-2
returns-in_err-write_part-2 g c =
    let written = rw c.code_of_proof.ensures at c.in_err-write_part-2.ensures.err in
    rw (wrong_parts (names_of (plain c.args.files.now)) c.args.label.now c.args.number c.args.at)
    (writes_stop c.from_residual-in_err-write_part-2.ensures.0 (stops_then c.in_ok-write_part.ensures (stops_then c.in_ok-write_all.ensures.writes (stops_then c.in_ok-write_place.ensures (stops_front _ written)))))

pub returns : goal.returns
returns g c =
    let written = rw c.code_of_proof.ensures at c.in_ok-write_part-2.ensures in
    rw (wrong_parts (names_of (plain c.args.files.now)) c.args.label.now c.args.number c.args.at)
    (writes_then c.in_ok-write_part.ensures (writes_then c.in_ok-write_all.ensures.writes (writes_then c.in_ok-write_place.ensures (writes_then written c.write_all-2.ensures.writes))))
