use Rattle.std.proofs.Common.{rules}
use Rattle.mm_keep.specs.mm_frame.Language.Base.{base_of}
use Rattle.mm_report.proofs.{LabelLemmas.{listed_parts}, StreamLemmas.{stops_front, stops_then, writes_then, writes_stop}}
use Rattle.mm_report.proofs.answer.write_labels.Goals as goal

pub returns-in_err-write_part : goal.returns-in_err-write_part
returns-in_err-write_part g c items is = search (rules, listed_parts, stops_front, writes_stop)

pub returns-in_err-write_number : goal.returns-in_err-write_number
returns-in_err-write_number g c items is =
    rw (listed_parts c.args.word.now (base_of items) c.args.items.now)
    (writes_stop c.from_residual-in_err-write_number.ensures.0 (stops_then c.in_ok-write_part.ensures (stops_front _ c.in_err-write_number.ensures.err)))

pub returns-in_err-write_all : goal.returns-in_err-write_all
returns-in_err-write_all g c items is =
    rw (listed_parts c.args.word.now (base_of items) c.args.items.now)
    (writes_stop c.from_residual-in_err-write_all.ensures.0 (stops_then c.in_ok-write_part.ensures (stops_then c.in_ok-write_number.ensures (stops_front _ c.in_err-write_all.ensures.writes.err))))

pub returns : goal.returns
returns g c items is =
    rw (listed_parts c.args.word.now (base_of items) c.args.items.now)
    (writes_then c.in_ok-write_part.ensures (writes_then c.in_ok-write_number.ensures (writes_then c.in_ok-write_all.ensures.writes (c.write_label_lines.ensures items is))))
