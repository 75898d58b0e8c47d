use Rattle.std.proofs.{Common.{arith}, lemmas.Grind.{common_steps}}
use Rattle.mm_keep.specs.mm_text.Language.Asked.{asked}
use Rattle.mm_report.proofs.{LabelLemmas.{refusal_parts}, StreamLemmas.{stops_front, stops_then, writes_then, writes_stop}}
use Rattle.mm_report.proofs.answer.write_refused.Goals as goal

pub returns-in_err-write_all : goal.returns-in_err-write_all
returns-in_err-write_all g c =
    rw (refusal_parts (asked c.args.edit.now) c.args.error)
    (writes_stop c.from_residual.ensures.0 (stops_front _ c.in_err-write_all.ensures.writes.err))

pub returns-in_err-write_reason : goal.returns-in_err-write_reason
returns-in_err-write_reason g c =
    let written = rw c.text_of_edit.ensures at c.in_err-write_reason.ensures.err in
    rw (refusal_parts (asked c.args.edit.now) c.args.error)
    (writes_stop c.from_residual-in_err-write_reason.ensures.0 (stops_then c.in_ok-write_all.ensures.writes (stops_front _ written)))

pub returns : goal.returns
returns g c =
    let written = rw c.text_of_edit.ensures at c.in_ok-write_reason.ensures in
    grind (arith, common_steps, refusal_parts (asked c.args.edit.now) c.args.error, writes_then c.in_ok-write_all.ensures.writes (writes_then written c.write_all-2.ensures.writes)) steps 200000
