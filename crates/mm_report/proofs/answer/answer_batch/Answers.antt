use Rattle.std.proofs.Common.{◌≡◌, List, inl, map, sym, ap, ◌∙◌, subst}
use Rattle.mm_keep.specs.{Language.{Refusals.{IsBatchRefusal}, Sessions.{SessionView}}, mm_store.Language.Batches.{IsBatchOf}, mm_text.Language.Asked.{Asked, asked}}
use Rattle.mm_report.{specs.Code.Answered.{Answers}, proofs.AskedLemmas.{answered_ok, answered_stop, ran_items, ran_is}}
use Rattle.mm_script.specs.Language.Script.{Batch, Listed}
use Rattle.mm_report.proofs.answer.answer_batch.Goals as goal

pub returns-in_err-write_labels-in-Ok : goal.returns-in_err-write_labels-in-Ok
returns-in_err-write_labels-in-Ok g c listed same =
    let old = c.args.session.now in
    let new = c.edit_all.new.self in
    let changed = c.in-Ok.ensures.runs in
    let items = ran_items old new c.in-Ok.work changed in
    let edits : map asked c.deref.result.now ≡ map (λ (one : Listed). one.edit) listed = ap (map asked) c.deref.ensures.value ∙ c.in_ok-edits.ensures ∙ sym same in
    let files = subst (λ (all : List Asked). IsBatchOf all old.files new.files) edits c.in-Ok.ensures.files in
    let stops = rw c.runs.ensures at (c.in_err-write_labels-in-Ok.ensures changed.runs.new items).err in
    answered_stop g.W.Write.contents (Batch listed) old new c.args.to.now c.write_labels.new.to c.from_residual-in_err-write_labels-in-Ok.result _
    c.from_residual-in_err-write_labels-in-Ok.ensures.1 (inl (files, ran_is old new c.in-Ok.work changed)) stops

pub returns-in-Ok : goal.returns-in-Ok
returns-in-Ok g c listed same =
    let old = c.args.session.now in
    let new = c.edit_all.new.self in
    let changed = c.in-Ok.ensures.runs in
    let items = ran_items old new c.in-Ok.work changed in
    let edits : map asked c.deref.result.now ≡ map (λ (one : Listed). one.edit) listed = ap (map asked) c.deref.ensures.value ∙ c.in_ok-edits.ensures ∙ sym same in
    let files = subst (λ (all : List Asked). IsBatchOf all old.files new.files) edits c.in-Ok.ensures.files in
    let out = rw c.runs.ensures at (c.in_ok-write_labels-in-Ok.ensures changed.runs.new items).ok in
    answered_ok g.W.Write.contents (Batch listed) old new c.args.to.now c.write_labels.new.to _ _ (inl (files, ran_is old new c.in-Ok.work changed)) out

pub write_batch_refusal-requires : goal.write_batch_refusal-requires
write_batch_refusal-requires g c =
    let files = c.args.session.now.files in
    let same : map asked c.deref.result.now ≡ map asked c.deref-in-Err.result.now = ap (map asked) (c.deref.ensures.value ∙ sym c.deref-in-Err.ensures.value) in
    (files, subst (λ (all : List Asked). IsBatchRefusal all files c.in-Err.error) same c.in-Err.ensures.refused)

pub returns : goal.returns
returns g c listed same =
    let old = c.args.session.now in
    let files = old.files in
    let same_edits : map asked c.deref.result.now ≡ map asked c.deref-in-Err.result.now = ap (map asked) (c.deref.ensures.value ∙ sym c.deref-in-Err.ensures.value) in
    let edits : map (λ (one : Listed). one.edit) listed ≡ map asked c.deref-in-Err.result.now = same ∙ sym c.in_ok-edits.ensures ∙ ap (map asked) (sym c.deref-in-Err.ensures.value) in
    subst (λ (new : SessionView). Answers g.W.Write.contents (Batch listed) old new c.args.to.now c.write_batch_refusal.new.to c.write_batch_refusal.result)
    (sym c.in-Err.ensures.unchanged)
    (c.write_batch_refusal.ensures old listed edits (subst (λ (all : List Asked). IsBatchRefusal all files c.in-Err.error) same_edits c.in-Err.ensures.refused))
