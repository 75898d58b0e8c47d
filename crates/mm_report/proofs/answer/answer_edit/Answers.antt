use Rattle.std.proofs.{Common.{arith, inl}, lemmas.Grind.{common_steps}}
use Rattle.mm_keep.specs.mm_text.Language.Asked.{asked}
use Rattle.mm_script.specs.Language.Script.{Change}
use Rattle.mm_report.proofs.AskedLemmas.{answered_ok, answered_stop, ran_items, ran_is}
use Rattle.mm_report.proofs.answer.answer_edit.Goals as goal

pub returns-in_err-write_labels-in-Ok : goal.returns-in_err-write_labels-in-Ok
returns-in_err-write_labels-in-Ok g c =
    let old = c.args.session.now in
    let new = c.edit.new.self in
    let changed = c.in-Ok.ensures.runs in
    let items = ran_items old new c.in-Ok.work changed in
    let stops = rw c.runs.ensures at (c.in_err-write_labels-in-Ok.ensures changed.runs.new items).err in
    answered_stop g.W.Write.contents (Change (asked c.args.edit.now)) old new c.args.to.now c.write_labels.new.to c.from_residual.result _ c.from_residual.ensures.1
    (inl (c.in-Ok.ensures.files, ran_is old new c.in-Ok.work changed)) stops

pub returns-in_ok-write_labels-in-Ok : goal.returns-in_ok-write_labels-in-Ok
returns-in_ok-write_labels-in-Ok g c =
    let old = c.args.session.now in
    let new = c.edit.new.self in
    let changed = c.in-Ok.ensures.runs in
    let items = ran_items old new c.in-Ok.work changed in
    let out = rw c.runs.ensures at (c.in_ok-write_labels-in-Ok.ensures changed.runs.new items).ok in
    answered_ok g.W.Write.contents (Change (asked c.args.edit.now)) old new c.args.to.now c.write_labels.new.to _ _
    (inl (c.in-Ok.ensures.files, ran_is old new c.in-Ok.work changed)) out

pub returns-in-Err : goal.returns-in-Err
returns-in-Err g c = grind (arith, common_steps, c.write_refusal.ensures c.args.session.now c.in-Err.ensures.refused) steps 200000
