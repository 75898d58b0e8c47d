use Rattle.mm_keep.specs.mm_text.Language.Asked.{asked}
use Rattle.mm_report.proofs.{LabelLemmas.{batch_refusal_parts}, StreamLemmas.{stops_front, stops_then, writes_then, writes_stop}}
use Rattle.mm_report.proofs.answer.write_batch_refused.Goals as goal

pub returns-in_err-write_count : goal.returns-in_err-write_count
returns-in_err-write_count g c =
    rw (batch_refusal_parts c.args.number (asked c.args.edit.now) c.args.error)
    (writes_stop c.from_residual.ensures.0 (stops_front _ c.in_err-write_count.ensures.err))

pub returns-in_err-write_all : goal.returns-in_err-write_all
returns-in_err-write_all g c =
    rw (batch_refusal_parts c.args.number (asked c.args.edit.now) c.args.error)
    (writes_stop c.from_residual-in_err-write_all.ensures.0 (stops_then c.in_ok-write_count.ensures (stops_front _ c.in_err-write_all.ensures.writes.err)))

pub returns-in_err-write_reason : goal.returns-in_err-write_reason
returns-in_err-write_reason g c =
    let written = rw c.text_of_edit.ensures at c.in_err-write_reason.ensures.err in
    rw (batch_refusal_parts c.args.number (asked c.args.edit.now) c.args.error)
    (writes_stop c.from_residual-in_err-write_reason.ensures.0 (stops_then c.in_ok-write_count.ensures (stops_then c.in_ok-write_all.ensures.writes (stops_front _ written))))

pub returns : goal.returns
returns g c =
    let written = rw c.text_of_edit.ensures at c.in_ok-write_reason.ensures in
    rw (batch_refusal_parts c.args.number (asked c.args.edit.now) c.args.error)
    (writes_then c.in_ok-write_count.ensures (writes_then c.in_ok-write_all.ensures.writes (writes_then written c.write_all-2.ensures.writes)))
