use Rattle.std.proofs.{lemmas.{Grind.{common_steps}, List.{length-map}}, Common.{◌<◌, length, refl, sym, ap, ◌∙◌, subst, arith}}
use Rattle.mm_text.specs.{Language.{Cut.{ended}, Asked.{asked, edited_text}}, declared.edit.Edit.{Edit}}
use Rattle.mm_store.specs.{Language.{FilesView.{plain, plain_file}, Edits.{BringsOneUnit}, EditedKeys.{IsMadeOf, inserted, replaced}, Answers.{IsEditError}}, Code.Edited.{pieces_in, NamesPlace}}
use Rattle.mm_store.{specs.Code.Undone.{undo_by}, proofs.lemmas.{files.ListLemmas.{bytes_more, bytes_other, count_members}, edits.{EditLemmas.{if_err, no_memory, not_new}, UndoLemmas.{done}}}}
use Rattle.mm_store.proofs.files.Files.apply.Goals.{in-Insert+in_ok-kept-in-Insert+in_ok-insert_piece-in-Insert, in-Replace+in_ok-kept-in-Replace+in_ok-replace_piece-in-Replace, in-Delete, in-Move}
use Rattle.mm_store.specs.Language.Undoing as action
use Rattle.mm_store.proofs.files.Files.apply.Goals as goal

pub returns-in_err-kept-in-Insert-clause-err : goal.returns-in_err-kept-in-Insert-clause-err
returns-in_err-kept-in-Insert-clause-err c =
    let view = c.args.self.now in
    let n = c.in_ok-number.number in
    let had = subst (λ (e : Edit). NamesPlace (asked e) view n) c.in-Insert.is c.in_ok-number.ensures.ok in
    let long : n < length (plain view) = omega (arith, had.there, length-map view.keyed (plain_file view.pieces)) in
    let bytes = bytes_more (plain view) n c.in-Insert.at (ended c.in-Insert.text.now) long in
    let told = not_new had c.in-Insert.text.now refl c.bytes_held.result (λ more. omega (arith, bytes, more, c.bytes_held.ensures)) c.in_err-kept-in-Insert.field-0.0 c.in_err-kept-in-Insert.ensures.err in
    if_err c.from_residual-in_err-kept-in-Insert.result _ _ c.from_residual-in_err-kept-in-Insert.ensures.1
    (λ e is. subst (IsEditError (asked c.args.edit.now) (plain view)) (sym is) (subst (λ (edit : Edit). IsEditError (asked edit) (plain view) c.in_err-kept-in-Insert.field-0.0) (sym c.in-Insert.is) told))

pub insert_piece-requires-clause-within : goal.insert_piece-requires-clause-within
insert_piece-requires-clause-within c = grind (arith, common_steps, bytes_more, length-map) steps 200000

pub returns-in_err-insert_piece-in-Insert-clause-err : goal.returns-in_err-insert_piece-in-Insert-clause-err
returns-in_err-insert_piece-in-Insert-clause-err c =
    if_err c.from_residual-in_err-insert_piece-in-Insert.result _ _ c.from_residual-in_err-insert_piece-in-Insert.ensures.1 (λ e is. subst (IsEditError (asked c.args.edit.now) (plain c.args.self.now)) (sym is)
    (no_memory c.in_ok-number.ensures.ok c.in-Insert.text.now (ap (λ (e : Edit). edited_text (asked e)) c.in-Insert.is)))

pub returns-in_err-kept-in-Replace-clause-err : goal.returns-in_err-kept-in-Replace-clause-err
returns-in_err-kept-in-Replace-clause-err c =
    let view = c.args.self.now in
    let n = c.in_ok-number.number in
    let had = subst (λ (e : Edit). NamesPlace (asked e) view n) c.in-Replace.is c.in_ok-number.ensures.ok in
    let long : n < length (plain view) = omega (arith, had.there, length-map view.keyed (plain_file view.pieces)) in
    let within : c.in-Replace.at < length (pieces_in (plain view) n) = omega (arith, had.among, count_members view.pieces view.keyed n) in
    let bytes = bytes_other (plain view) n c.in-Replace.at (ended c.in-Replace.text.now) long within in
    let told = not_new had c.in-Replace.text.now refl c.bytes_without.result (λ more. omega (arith, bytes, more, c.bytes_without.ensures)) c.in_err-kept-in-Replace.field-0.0 c.in_err-kept-in-Replace.ensures.err in
    if_err c.from_residual-in_err-kept-in-Replace.result _ _ c.from_residual-in_err-kept-in-Replace.ensures.1
    (λ e is. subst (IsEditError (asked c.args.edit.now) (plain view)) (sym is) (subst (λ (edit : Edit). IsEditError (asked edit) (plain view) c.in_err-kept-in-Replace.field-0.0) (sym c.in-Replace.is) told))

pub replace_piece-requires-clause-within : goal.replace_piece-requires-clause-within
replace_piece-requires-clause-within c =
    let view = c.args.self.now in
    let n = c.in_ok-number.number in
    let had = subst (λ (e : Edit). NamesPlace (asked e) view n) c.in-Replace.is c.in_ok-number.ensures.ok in
    let long : n < length (plain view) = omega (arith, had.there, length-map view.keyed (plain_file view.pieces)) in
    let within : c.in-Replace.at < length (pieces_in (plain view) n) = omega (arith, had.among, count_members view.pieces view.keyed n) in
    omega (arith, bytes_other (plain view) n c.in-Replace.at c.in_ok-kept-in-Replace.kept.text long within, c.bytes_without.ensures, c.in_ok-kept-in-Replace.ensures.fits)

pub returns-in_err-replace_piece-in-Replace-clause-err : goal.returns-in_err-replace_piece-in-Replace-clause-err
returns-in_err-replace_piece-in-Replace-clause-err c =
    if_err c.from_residual-in_err-replace_piece-in-Replace.result _ _ c.from_residual-in_err-replace_piece-in-Replace.ensures.1 (λ e is. subst (IsEditError (asked c.args.edit.now) (plain c.args.self.now)) (sym is)
    (no_memory c.in_ok-number.ensures.ok c.in-Replace.text.now (ap (λ (e : Edit). edited_text (asked e)) c.in-Replace.is)))

pub returns-clause-ok : goal.returns-clause-ok
returns-clause-ok c =
    let view = c.args.self.now in
    let n = c.in_ok-number.number in
    let made : BringsOneUnit (edited_text (asked c.args.edit.now)) × IsMadeOf (asked c.args.edit.now) n view c.match-edit.self (undo_by n c.match-edit.action) = elim c.match-edit.branch [
      | in-Insert+in_ok-kept-in-Insert+in_ok-insert_piece-in-Insert w ↦
          let unit = w.in_ok-kept-in-Insert.ensures.unit in
          let made = w.in_ok-insert_piece-in-Insert.ensures.ok in
          rw (w.in-Insert.is, w.self-is, w.action-is) (unit.one, (made.0, made.1, made.2 ∙ ap (inserted view n w.in-Insert.at made.0) unit.whole, refl))
      | in-Replace+in_ok-kept-in-Replace+in_ok-replace_piece-in-Replace w ↦
          let unit = w.in_ok-kept-in-Replace.ensures.unit in
          let made = w.in_ok-replace_piece-in-Replace.ensures.ok in
          rw (w.in-Replace.is, w.self-is, w.action-is)
          (unit.one, (made.0, made.1, made.2 ∙ ap (replaced view n w.in-Replace.at made.0) unit.whole, ap (λ old. record { file = n; action = action.Replaced w.in-Replace.at old }) w.in_ok-replace_piece-in-Replace.ensures.key))
      | in-Delete w ↦ rw (w.in-Delete.is, w.self-is, w.action-is) (tt, (w.take_out.ensures.files, ap (λ old. record { file = n; action = action.Deleted w.in-Delete.at old }) w.take_out.ensures.key))
      | in-Move w ↦ rw (w.in-Move.is, w.self-is, w.action-is) (tt, (w.move_piece.ensures, refl))
    ] in
    done _ c.in_ok-number.ensures.ok c.stand_once.ensures c.stay_small.ensures made.0 made.1 c.stay_small-2.ensures
