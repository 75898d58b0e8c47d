use Rattle.std.proofs.{Common.{rules, [], arith}, lemmas.Grind.{elements}}
use Rattle.mm_keep.specs.mm_text.declared.edit.Edit.{Edit}
use Rattle.mm_script.specs.Language.Script.{Batch}
use Rattle.mm_report.proofs.AskedLemmas.{answered_ok, answered_stop, batch_refused_is}
use Rattle.mm_keep.specs.mm_text.declared.edit.Edit.TheVariants as code
use Rattle.mm_report.proofs.answer.write_batch_refusal.Goals as goal

none : Edit
none = code.Insert (record { ref_ptr = (0, 0); now = [] }) 0 (record { ref_ptr = (0, 0); now = [] })

pub returns-in_err-write_batch_refused-in-Edit : goal.returns-in_err-write_batch_refused-in-Edit
unfolding none
returns-in_err-write_batch_refused-in-Edit g c session listed same refused =
    let at = rw c.in-Edit.is at refused in
    answered_stop g.W.Write.contents (Batch listed) session session c.args.to.now c.write_batch_refused.new.to c.from_residual.result _ c.from_residual.ensures.1
    (batch_refused_is session c.args.edits.now listed c.in-Edit.number c.in-Edit.error none same at) c.in_err-write_batch_refused-in-Edit.ensures.err

pub returns-in_ok-write_batch_refused-in-Edit : goal.returns-in_ok-write_batch_refused-in-Edit
unfolding none
returns-in_ok-write_batch_refused-in-Edit g c session listed same refused = search (rules, answered_ok, batch_refused_is, none)

pub bounds-edits-number : goal.bounds-edits-number
bounds-edits-number g c = grind (arith, elements)

pub offset_bounds-edits-number : goal.offset_bounds-edits-number
offset_bounds-edits-number g c = grind (arith, elements)

pub write_batch_refused-requires : goal.write_batch_refused-requires
write_batch_refused-requires g c = grind (arith, elements)
