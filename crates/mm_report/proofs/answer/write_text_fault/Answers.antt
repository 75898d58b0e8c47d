use Rattle.mm_report.proofs.{LabelLemmas.{fault_words}, StreamLemmas.{stops_front, stops_then, writes_then, writes_stop}}
use Rattle.mm_report.proofs.answer.write_text_fault.Goals as goal

pub returns-in_err-write_count : goal.returns-in_err-write_count
returns-in_err-write_count g c =
    rw (fault_words c.args.text.now c.args.fault)
    (rw (← c.place-at.ensures.line) (writes_stop c.from_residual.ensures.0 (stops_front _ c.in_err-write_count.ensures.err)))

pub returns-in_err-write_count-2 : goal.returns-in_err-write_count-2
returns-in_err-write_count-2 g c =
    rw (fault_words c.args.text.now c.args.fault)
    (rw (← c.place-at.ensures.line, ← c.place-at.ensures.column) (writes_stop c.from_residual-in_err-write_count-2.ensures.0 (stops_then c.in_ok-write_count.ensures (stops_front _ c.in_err-write_count-2.ensures.err))))

pub returns : goal.returns
returns g c =
    rw (fault_words c.args.text.now c.args.fault)
    (rw (← c.place-at.ensures.line, ← c.place-at.ensures.column)
    (writes_then c.in_ok-write_count.ensures (writes_then c.in_ok-write_count-2.ensures (rw (c.as_bytes.ensures.value, c.fault_name.ensures) at c.write_part.ensures))))
