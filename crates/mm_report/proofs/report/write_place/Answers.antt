use Rattle.std.proofs.Common.{rules}
use Rattle.mm_keep.specs.mm_store.Language.FilesView.{plain}
use Rattle.mm_report.{specs.Language.Report.{names_of}, proofs.{FileLemmas.{keyed_within, name_is}, ReportLemmas.{place_parts}, StreamLemmas.{stops_front, stops_then, writes_then, writes_stop}}}
use Rattle.mm_report.proofs.report.write_place.Goals as goal

pub returns-in_err-write_part : goal.returns-in_err-write_part
returns-in_err-write_part g c = search (rules, name_is, place_parts, stops_front, writes_stop)

pub returns-in_err-write_number : goal.returns-in_err-write_number
returns-in_err-write_number g c =
    rw (place_parts (names_of (plain c.args.files.now)) c.args.at, name_is c.args.files.now c.args.at.file c.file_name.result.now c.file_name.ensures)
    (writes_stop c.from_residual-in_err-write_number.ensures.0 (stops_then c.in_ok-write_part.ensures (stops_front _ c.in_err-write_number.ensures.err)))

pub returns : goal.returns
returns g c =
    rw (place_parts (names_of (plain c.args.files.now)) c.args.at, name_is c.args.files.now c.args.at.file c.file_name.result.now c.file_name.ensures)
    (writes_then c.in_ok-write_part.ensures (writes_then c.in_ok-write_number.ensures c.write_count.ensures))

pub file_name-requires : goal.file_name-requires
file_name-requires g c = keyed_within c.args.files.now c.args.at.file c.requires
