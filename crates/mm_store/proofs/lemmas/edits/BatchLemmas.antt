-- Edits that were done one after another, undone and settled.
use Rattle.std.proofs.{lemmas.Grind.{common_steps}, Common.{◌≡◌, ◌≢◌, ℕ, ◌+◌, List, [], ◌∷◌, ◌++◌, Option, Some, refl, sym, ap, ◌∙◌, subst, arith, Result, IfOk, OnOk}}
use Rattle.mm_store.specs.{declared.edit.EditError.{EditError}, Language.{EditedKeys.{IsEditByKeys, parks}, Batches.{CanSettleAll, CanUndoAll, IsSpendable, settled_all, undone_all}}}
use Rattle.mm_store.specs.Language.{FileFacts.{parked_in}, FilesView.{FilesView}}
use Rattle.mm_store.specs.Language.Pieces.{Standing, Removal, HeldPiece, IsParked, Pieces, parked_count, parked_pieces, parked_state, parked_under, with_state}
use Rattle.mm_store.specs.{Language.Undoing.{UndoView, EditAction, CanSettle, CanUndo, Fits, IsUndoable, dropped, key_at, reversed, settled, spent, undone}, Code.Batched.{StandOnce}}
use Rattle.mm_store.{specs.Code.Kept.{standing_count}, proofs.lemmas.files.{MapLemmas.{get_drop_other, get_drop_same}, PieceLemmas.{get_state_other, get_state_same}}}
use Rattle.mm_store.proofs.lemmas.{files.StoreLemmas.{parked_changed, parked_dropped}, edits.StepLemmas.{key_stands, parked, stands}}
use Rattle.mm_text.specs.Language.Asked.{Asked}
use Rattle.std.specs.FinMap as finite
use Rattle.mm_store.specs.Language.Undoing as action

-- one edit more, after the others
pub undone_last : (front : List UndoView) (undo : UndoView) (view : FilesView) → undone_all (front ++ undo ∷ []) view ≡ undone_all front (undone undo view)
undone_last [] undo view = refl
undone_last (first ∷ front) undo view = ap (undone first) (undone_last front undo view)

pub can_undo_last : (front : List UndoView) (undo : UndoView) (view : FilesView) → CanUndoAll front (undone undo view) → CanUndo undo view → CanUndoAll (front ++ undo ∷ []) view
can_undo_last [] undo view others can = (tt, can)
can_undo_last (first ∷ front) undo view others can = (can_undo_last front undo view others.0 can, subst (CanUndo first) (sym (undone_last front undo view)) others.1)

pub undo_last : (front : List UndoView) (undo : UndoView) (view : FilesView) → CanUndoAll (front ++ undo ∷ []) view → CanUndo undo view
undo_last [] undo view can = can.1
undo_last (first ∷ front) undo view can = undo_last front undo view can.0

pub undo_others : (front : List UndoView) (undo : UndoView) (view : FilesView) → CanUndoAll (front ++ undo ∷ []) view → CanUndoAll front (undone undo view)
undo_others [] undo view can = tt
undo_others (first ∷ front) undo view can = (undo_others front undo view can.0, subst (CanUndo first) (undone_last front undo view) can.1)

pub settled_last : (front : List UndoView) (undo : UndoView) (view : FilesView) → settled_all (front ++ undo ∷ []) view ≡ settled_all front (settled undo view)
settled_last [] undo view = refl
settled_last (first ∷ front) undo view = ap (settled first) (settled_last front undo view)

pub can_settle_last : (front : List UndoView) (undo : UndoView) (view : FilesView) → CanSettleAll front (settled undo view) → CanSettle undo.action view → CanSettleAll (front ++ undo ∷ []) view
can_settle_last [] undo view others can = (tt, can)
can_settle_last (first ∷ front) undo view others can = grind (arith, common_steps, can_settle_last front undo view others.0 can, settled_last front undo view) steps 200000

pub settle_last : (front : List UndoView) (undo : UndoView) (view : FilesView) → CanSettleAll (front ++ undo ∷ []) view → CanSettle undo.action view
settle_last [] undo view can = can.1
settle_last (first ∷ front) undo view can = settle_last front undo view can.0

pub settle_others : (front : List UndoView) (undo : UndoView) (view : FilesView) → CanSettleAll (front ++ undo ∷ []) view → CanSettleAll front (settled undo view)
settle_others [] undo view can = tt
settle_others (first ∷ front) undo view can = (settle_others front undo view can.0, subst (CanSettle first.action) (settled_last front undo view) can.1)

-- each piece that is parked in the one files is parked in the others
abbrev pub KeepsParked : FilesView → FilesView → Type 0
KeepsParked a b = (key : ℕ) → parked_under a.pieces key ≡ 1 → parked_under b.pieces key ≡ 1

dropped_parked : (p : Pieces) (k key : ℕ) → parked_under (finite.remove p k) key ≡ 1 → parked_under p key ≡ 1
dropped_parked p k key is = grind (arith, common_steps, get_drop_other, get_drop_same) steps 200000

other_parked : (p : Pieces) (k key : ℕ) → key ≢ k → parked_under p key ≡ 1 → parked_under (finite.remove p k) key ≡ 1
other_parked p k key differs is = ap parked_count (get_drop_other p k key differs) ∙ is

settled_keeps : (a b : FilesView) (undos : List UndoView) → KeepsParked a b → KeepsParked (settled_all undos a) (settled_all undos b)
settled_keeps a b [] keeps = keeps
settled_keeps a b (undo ∷ undos) keeps = spent_keeps (settled_all undos a) (settled_all undos b) undo.action (settled_keeps a b undos keeps)
  where
    dropped_keeps : (a b : FilesView) (k : ℕ) → KeepsParked a b → KeepsParked (dropped k a) (dropped k b)
    dropped_keeps a b k keeps key is = grind (arith, common_steps, dropped_parked, other_parked, get_drop_same) steps 200000

    spent_keeps : (a b : FilesView) (act : EditAction) → KeepsParked a b → KeepsParked (spent act a) (spent act b)
    spent_keeps a b (action.Replaced at k) keeps = dropped_keeps a b k keeps
    spent_keeps a b (action.Deleted at k) keeps = dropped_keeps a b k keeps
    spent_keeps a b _ keeps = keeps

can_settle_kept : (a b : FilesView) (act : EditAction) → KeepsParked a b → CanSettle act a → CanSettle act b
can_settle_kept a b act keeps can = grind (arith, common_steps) steps 200000

-- what can be settled in the one files can be settled in the others
pub can_settle_all : (a b : FilesView) (undos : List UndoView) → KeepsParked a b → CanSettleAll undos a → CanSettleAll undos b
can_settle_all a b [] keeps can = tt
can_settle_all a b (undo ∷ undos) keeps can =
    (can_settle_all a b undos keeps can.0, can_settle_kept (settled_all undos a) (settled_all undos b) undo.action (settled_keeps a b undos keeps) can.1)

-- a parked piece is there
record IsParkedThere (o : Option HeldPiece) : Type 0 where
  pub piece : HeldPiece
  pub is : o ≡ Some piece
  pub one : parked_state piece.state ≡ 1

parked_there : (o : Option HeldPiece) → parked_count o ≡ 1 → IsParkedThere o
parked_there o is = grind (arith, common_steps) steps 200000

is_parked_one : (p : Pieces) (k n : ℕ) (kind : Removal) → IsParked p k n kind → parked_under p k ≡ 1
is_parked_one p k n kind is = grind (arith, common_steps, parked (finite.get p k) n kind is) steps 200000

-- one piece less is parked
dropped_count : (p : Pieces) (k : ℕ) → parked_under p k ≡ 1 → parked_pieces (finite.remove p k) + 1 ≡ parked_pieces p
dropped_count p k is =
    let there = parked_there (finite.get p k) is in
    omega (arith, there.one, parked_dropped p k there.piece there.is)

spent_count : (a b : FilesView) (act : EditAction) → CanSettle act a → CanSettle act b → parked_in a ≡ parked_in b → parked_in (spent act a) ≡ parked_in (spent act b)
spent_count a b act can also same = grind (arith, common_steps, dropped_count) steps 200000

-- and as many pieces are then parked
pub settled_count : (a b : FilesView) (undos : List UndoView) → CanSettleAll undos a → CanSettleAll undos b → parked_in a ≡ parked_in b → parked_in (settled_all undos a) ≡ parked_in (settled_all undos b)
settled_count a b [] can also same = same
settled_count a b (undo ∷ undos) can also same =
    spent_count (settled_all undos a) (settled_all undos b) undo.action can.1 also.1 (settled_count a b undos can.0 also.0 same)

-- a piece of a file is not parked
standing_drop : (p : Pieces) (k : ℕ) → standing_count (finite.get p k) ≡ 1 → parked_pieces (finite.remove p k) ≡ parked_pieces p
standing_drop p k is =
    let was = stands (finite.get p k) is in
    omega (arith, parked_dropped p k was.piece was.is, ap parked_state was.state)

-- a piece that is put back is not parked, and the others are as before
stood : (p : Pieces) (k key : ℕ) → parked_under (with_state p k Standing) key ≡ 1 → key ≢ k
stood p k key is same = grind (arith, common_steps, get_state_same) steps 200000

was_parked : (p : Pieces) (k key : ℕ) → parked_under (with_state p k Standing) key ≡ 1 → parked_under p key ≡ 1
was_parked p k key is = ap parked_count (sym (get_state_other p k Standing key (stood p k key is))) ∙ is

stood_count : (p : Pieces) (k : ℕ) → parked_under p k ≡ 1 → parked_pieces (with_state p k Standing) + 1 ≡ parked_pieces p
stood_count p k is =
    let there = parked_there (finite.get p k) is in
    omega (arith, is, parked_changed p k there.piece Standing there.is)

-- the others park what the one files park, and as many pieces
record ParksAlike (a b : FilesView) : Type 0 where
  pub keeps : KeepsParked a b
  pub count : parked_in a ≡ parked_in b

-- an edit that is undone and one that is settled leave the same pieces parked
parks_alike : (view : FilesView) (n : ℕ) (act : EditAction) → StandOnce view → Fits n act view → ParksAlike (reversed n act view) (spent act view)
parks_alike view n (action.Inserted at) once fits = grind (arith, standing_drop view.pieces (key_at view n at) (key_stands view.keyed view.pieces n at once fits), dropped_parked) steps 200000
parks_alike view n (action.Replaced at old) once fits =
    let p = view.pieces in
    let k = key_at view n at in
    let here = key_stands view.keyed p n at once fits.0 in
    let one = is_parked_one p old n _ fits.1 in
    let differs : old ≢ k = λ same. omega (arith, here, (parked (finite.get p old) n _ fits.1).none, ap (λ q. standing_count (finite.get p q)) same) in
    record {
      keeps = λ key is. other_parked p old key (stood (finite.remove p k) old key is) (dropped_parked p k key (was_parked (finite.remove p k) old key is));
      count = omega (arith, standing_drop p k here, dropped_count p old one, stood_count (finite.remove p k) old (other_parked p k old differs one));
    }
parks_alike view n (action.Deleted at old) once fits =
    let p = view.pieces in
    let one = is_parked_one p old n _ fits.1 in
    record {
      keeps = λ key is. other_parked p old key (stood p old key is) (was_parked p old key is);
      count = omega (arith, dropped_count p old one, stood_count p old one);
    }
parks_alike view n (action.Moved at to) once fits = record { keeps = λ key is. is; count = refl }

-- what edits left, and what one edit more leaves
pub spendable_more : (old between new : FilesView) (undos : List UndoView) (undo : UndoView) → StandOnce new → IsUndoable between new undo → IsSpendable old between undos → IsSpendable old new (undos ++ undo ∷ [])
spendable_more old between new undos undo once undoable spendable =
    let alike : ParksAlike between (settled undo new) = subst (λ view. ParksAlike view (settled undo new)) undoable.back (parks_alike new undo.file undo.action once undoable.can_undo.fits) in
    let settles : CanSettleAll undos (settled undo new) = can_settle_all between (settled undo new) undos alike.keeps spendable.can_settle in
    record {
      can_undo = can_undo_last undos undo new (subst (CanUndoAll undos) (sym undoable.back) spendable.can_undo) undoable.can_undo;
      back = undone_last undos undo new ∙ ap (undone_all undos) undoable.back ∙ spendable.back;
      can_settle = can_settle_last undos undo new settles undoable.can_settle;
      parked = ap (λ view. parked_in view) (settled_last undos undo new) ∙ sym (settled_count between (settled undo new) undos spendable.can_settle settles alike.count) ∙ spendable.parked;
    }

-- how many pieces are parked by what an edit did
abbrev parked_by : EditAction → ℕ
parked_by (action.Inserted at) = 0
parked_by (action.Replaced at k) = 1
parked_by (action.Deleted at k) = 1
parked_by (action.Moved at to) = 0

spent_less : (view : FilesView) (act : EditAction) → CanSettle act view → parked_in (spent act view) + parked_by act ≡ parked_in view
spent_less view act can = grind (arith, common_steps, dropped_count) steps 200000

-- an edit parks as many pieces more as its kind says
pub parks_more : (edit : Asked) (old new : FilesView) (r : Result UndoView EditError) → StandOnce new → IfOk r (IsUndoable old new) → IfOk r (IsEditByKeys edit old new)
    → OnOk r (parked_in new ≡ parked_in old + parks edit)
parks_more edit old new r once undoable by_keys = grind (arith, common_steps, parks_alike, spent_less) steps 200000
