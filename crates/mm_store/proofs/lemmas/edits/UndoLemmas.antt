-- Edits are done, and their undoing gives the files of before.
use Rattle.std.proofs.lemmas.{Grind.{common_steps}, Bool.{cases_eq}, List.{map-set, set-set, set-get_or, get_or-set_same, length-set, Edits.{length-insert, length-remove, get_or-insert_at}}}
use Rattle.std.{proofs.Common.{◌≡◌, ◌≢◌, inl, inr, ℕ, ◌<◌, ◌≤◌, List, [], Option, Some, None, is_some, true, length, map, get_or, set, refl, sym, ap, ◌∙◌, subst, arith}, specs.List.{insert, remove}}
use Rattle.mm_store.specs.{declared.undo.{Action.{Action}, Undo.TheInside.{Inside}}, Code.{Undone.{undo_by, undo_view}, Edited.{IsDone, IsHeld, NamesPlace, exchanged, pieces_in, with_pieces}}}
use Rattle.mm_store.specs.{Code.Kept.{places, standing_count}, Language.{EditedKeys.{IsMadeOf, replaced, inserted}, Edits.{BringsOneUnit, edited}}}
use Rattle.mm_store.specs.Language.FilesView.{File, KeyedFile, FilesView, plain, plain_file, bytes_of}
use Rattle.mm_store.specs.Language.Pieces.{PieceState, Standing, Parked, Removal, Replaced, Deleted, HeldPiece, Pieces, in_state, with_state, standing_piece, IsParked, parked_under, parked_count}
use Rattle.mm_store.specs.Language.Pieces.{text_under}
use Rattle.mm_store.specs.Language.Undoing.{UndoView, EditAction, KeepsOthers, CanSettle, Fits, IsUndoable, KeepsKeys, dropped, reversed, undone_key, keys_in, with_keys, key_at, moved_list, moved}
use Rattle.mm_store.{specs.Language.Undoing.{undone}, proofs.lemmas.files.PieceLemmas.{text_drop_other, text_put_same, text_put_other, text_state, get_state_same, get_state_other}}
use Rattle.mm_store.proofs.lemmas.files.MapLemmas.{drop_any, drop_put, get_put_same, get_put_other, get_drop_same, get_drop_other, same_but}
use Rattle.mm_store.proofs.lemmas.files.ListLemmas.{in_files, back, insert_removed, keys_with, remove_inserted, places_in, plain_pieces, plain_same, plain_with, read_member, texts_same}
use Rattle.mm_store.proofs.lemmas.{files.EntryLemmas.{same_view}, edits.{EditLemmas.{is_edit}, StepLemmas.{IsKeyed, Stands, key_stands, map_remove}}}
use Rattle.mm_text.specs.Language.{Asked.{Asked, Insert, Replace, Delete, Move, edited_text}, Cut.{ended}}
use Rattle.indexmap.proofs.SetLemmas.{map-insert}
use Rattle.std.specs.FinMap as finite
use Rattle.mm_store.specs.Language.Undoing as action
use Rattle.mm_store.specs.Language.EditedKeys as made
use Rattle.mm_store.proofs.lemmas.edits.StepLemmas as steps

-- what an undo says, by what was done
pub undo_is : (inside : Inside) (did : Action) (undo : UndoView) → undo_view inside ≡ undo → inside.action ≡ did → undo_by inside.file did ≡ undo
undo_is inside did undo is same = ap (undo_by inside.file) (sym same) ∙ is

-- an edit of the file of this number was done: its members are these now, and undoing it gives the files of before
pub record IsEditDone (old new : FilesView) (number : ℕ) (members : List (List ℕ)) (undo : UndoView) : Type 0 where
  pub means : plain new ≡ with_pieces (plain old) number members
  pub keeps : KeepsKeys old new
  pub undoes : IsUndoable old new undo

twice : (o : Option HeldPiece) (s t : PieceState) → in_state (Some (in_state o s)) t ≡ in_state o t
twice o s t = grind (arith, common_steps) steps 200000

module _ (p : Pieces) (old : ℕ) (stands : Stands (finite.get p old)) where
  revived : in_state (finite.get p old) Standing ≡ stands.piece
  revived = grind (arith, common_steps) steps 200000

  -- parked, and put back
  pub parked_back : (n : ℕ) (kind : Removal) → with_state (with_state p old (Parked n kind)) old Standing ≡ p
  parked_back n kind = same_but _ _ old
      (get_state_same (with_state p old (Parked n kind)) old Standing ∙ ap Some (ap (λ o. in_state o Standing) (get_state_same p old (Parked n kind)) ∙ twice (finite.get p old) (Parked n kind) Standing ∙ revived) ∙ sym stands.is)
      (λ q d. get_state_other (with_state p old (Parked n kind)) old Standing q d ∙ get_state_other p old (Parked n kind) q d)

-- changes of two keys in either order
state_drop : (p : Pieces) (old k : ℕ) (s : PieceState) → old ≢ k → finite.remove (with_state p old s) k ≡ with_state (finite.remove p k) old s
state_drop p old k s differs = same_but _ _ k
    (get_drop_same (with_state p old s) k ∙ sym (get_state_other (finite.remove p k) old s k (λ e. differs (sym e)) ∙ get_drop_same p k))
    (λ q d. get_drop_other (with_state p old s) k q d ∙ elim (cases_eq q old) [
      | inl is ↦ grind (arith, common_steps, get_drop_other, get_state_same) steps 200000
      | inr other ↦ get_state_other p old s q other ∙ sym (get_drop_other p k q d) ∙ sym (get_state_other (finite.remove p k) old s q other)
    ])

-- a new piece is held, and stands then
pub stands_new : (p : Pieces) (k : ℕ) (text : List ℕ) (s : PieceState) → with_state (finite.insert p k (record { text = text; state = s })) k Standing ≡ finite.insert p k (standing_piece text)
stands_new p k text s = same_but _ _ k
    (get_state_same (finite.insert p k (record { text = text; state = s })) k Standing ∙ ap (λ o. Some (in_state o Standing)) (get_put_same p k _) ∙ sym (get_put_same p k (standing_piece text)))
    (λ q d. get_state_other (finite.insert p k (record { text = text; state = s })) k Standing q d ∙ get_put_other p k _ q d ∙ sym (get_put_other p k (standing_piece text) q d))

-- and another is parked
pub exchanged_new : (p : Pieces) (k old : ℕ) (text : List ℕ) (s t : PieceState) → old ≢ k
    → with_state (with_state (finite.insert p k (record { text = text; state = s })) old t) k Standing ≡ with_state (finite.insert p k (standing_piece text)) old t
exchanged_new p k old text s t differs = same_but _ _ k
    (grind (arith, common_steps, get_put_same, get_state_other, get_state_same) steps 200000)
    (λ q d. grind (arith, common_steps, cases_eq q old, get_put_other, get_state_other, get_state_same) steps 200000)

parked_is : (p : Pieces) (old n : ℕ) (kind : Removal) → IsParked (with_state p old (Parked n kind)) old n kind
parked_is p old n kind = grind (arith, common_steps, get_state_same) steps 200000

parked_stands : (p : Pieces) (old n : ℕ) (kind : Removal) → standing_count (finite.get (with_state p old (Parked n kind)) old) ≡ 0
parked_stands p old n kind = grind (arith, common_steps, get_state_same) steps 200000

pub parked_once : (p : Pieces) (old n : ℕ) (kind : Removal) → parked_under (with_state p old (Parked n kind)) old ≡ 1
parked_once p old n kind = grind (arith, common_steps, get_state_same) steps 200000

-- a key that has a piece keeps it
kept_state : (p : Pieces) (old : ℕ) (s : PieceState) (q : ℕ) → is_some (finite.get p q) ≡ true → is_some (finite.get (with_state p old s) q) ≡ true
kept_state p old s q some = elim (cases_eq q old) [
  | inl is ↦ ap (λ q. is_some (finite.get (with_state p old s) q)) is ∙ ap is_some (get_state_same p old s)
  | inr differs ↦ ap is_some (get_state_other p old s q differs) ∙ some
]

not_fresh : (p : Pieces) (k q : ℕ) → finite.get p k ≡ None → is_some (finite.get p q) ≡ true → q ≢ k
not_fresh p k q fresh some e = absurd (let none : is_some (finite.get p q) ≡ is_some {T = HeldPiece} None = ap (λ q. is_some (finite.get p q)) e ∙ ap is_some fresh in cc)

module _ (view : FilesView) (n at : ℕ)
    (once : (q : ℕ) → places q view.keyed ≡ standing_count (finite.get view.pieces q))
    (small : bytes_of (plain view) ≤ 4294967295) where
  abbrev fs : List KeyedFile
  fs = view.keyed

  abbrev p : Pieces
  p = view.pieces

  abbrev keys : List ℕ
  keys = keys_in fs n

  abbrev old : ℕ
  old = get_or keys at 0

  abbrev files : List File
  files = plain view

  abbrev members : List (List ℕ)
  members = pieces_in files n

  keyed : IsKeyed fs p n keys
  keyed = record { is = refl; once = once }

  -- what the files mean after a new piece has come under a key
  module _ (k : ℕ) (text : List ℕ) (fresh : finite.get p k ≡ None) (now : Pieces) (off : (q : ℕ) → q ≢ k → text_under now q ≡ text_under p q) (new : text_under now k ≡ text) where
    no_new : places k fs ≡ 0
    no_new = once k ∙ ap standing_count fresh

    means : (ks : List ℕ) → map (plain_file now) (with_keys fs n ks) ≡ with_pieces files n (map (text_under now) ks)
    means ks = plain_with now fs n ks ∙ ap (λ gs. with_pieces gs n (map (text_under now) ks)) (plain_same p now k off fs no_new)

    left : map (text_under now) keys ≡ members
    left = texts_same p now k off keys (omega (arith, places_in k fs n, no_new)) ∙ sym (plain_pieces p fs n)

    means_inserted : map (plain_file now) (with_keys fs n (insert keys at k)) ≡ with_pieces files n (insert members at text)
    means_inserted = means (insert keys at k) ∙ ap (with_pieces files n) (map-insert (text_under now) keys at k ∙ (λ i. insert (left i) at (new i)))

    means_replaced : map (plain_file now) (with_keys fs n (set keys at k)) ≡ with_pieces files n (set members at text)
    means_replaced = means (set keys at k) ∙ ap (with_pieces files n) (map-set (text_under now) keys at k ∙ (λ i. set (left i) at (new i)))

  undoable : {undo : UndoView} {new : FilesView} → Fits undo.file undo.action new → CanSettle undo.action new → undone undo new ≡ view → IsUndoable view new undo
  undoable fits settle is = record { can_undo = record { fits = fits; within = subst (λ v. bytes_of (plain v) ≤ 4294967295) (sym is) small }; can_settle = settle; back = is }

  pub is_inserted : (k : ℕ) (text : List ℕ) → n < length fs → at ≤ length keys → finite.get p k ≡ None → IsEditDone view (inserted view n at k text) n (insert members at text) (record { file = n; action = action.Inserted at })
  is_inserted k text file there fresh =
      let undo : UndoView = record { file = n; action = action.Inserted at } in
      let new = inserted view n at k text in
      let has = keys_with fs n (insert keys at k) file in
      let key : key_at new n at ≡ k = ap (λ ks. get_or ks at 0) has ∙ get_or-insert_at keys at k 0 there in
      let again : undone undo new ≡ view = same_view _ _
      (back fs n (insert keys at k) _ (ap (λ ks. remove ks at) has ∙ remove_inserted keys at k there))
      (ap (finite.remove new.pieces) key ∙ drop_put p k (standing_piece text) fresh) in
      record {
        means = means_inserted k text fresh _ (text_put_other p k (standing_piece text)) (text_put_same p k (standing_piece text));
        keeps = λ q some. record {
          there = ap is_some (get_put_other p k (standing_piece text) q (not_fresh p k q fresh some)) ∙ some;
          text = text_put_other p k (standing_piece text) q (not_fresh p k q fresh some);
        };
        undoes = undoable (omega (arith, ap length has, length-insert keys at k there, there)) tt again;
      }

  module _ (there : at < length keys) where
    without : map (text_under p) (remove keys at) ≡ remove members at
    without = map_remove (text_under p) keys at ∙ ap (λ ts. remove ts at) (sym (plain_pieces p fs n))

    read : text_under p old ≡ get_or members at []
    read = sym (read_member p fs n at there)

    pub old_other : (k : ℕ) → finite.get p k ≡ None → old ≢ k
    old_other k fresh is = grind (arith, common_steps, key_stands) steps 200000

    stands : Stands (finite.get p old)
    stands = steps.stands (finite.get p old) (key_stands fs p n at once there)

    file_there : n < length fs
    file_there = in_files fs n at there

    pub is_replaced : (k : ℕ) (text : List ℕ) → finite.get p k ≡ None → IsEditDone view (replaced view n at k text) n (set members at text) (record { file = n; action = action.Replaced at old })
    is_replaced k text fresh =
        let undo : UndoView = record { file = n; action = action.Replaced at old } in
        let new = replaced view n at k text in
        let p1 = finite.insert p k (standing_piece text) in
        let differs = old_other k fresh in
        let has = keys_with fs n (set keys at k) file_there in
        let key : key_at new n at ≡ k = ap (λ ks. get_or ks at 0) has ∙ get_or-set_same keys at k 0 there in
        let pieces : with_state (finite.remove new.pieces (key_at new n at)) old Standing ≡ p =
        ap (λ q. with_state (finite.remove new.pieces q) old Standing) key
        ∙ ap (λ m. with_state m old Standing) (state_drop p1 old k (Parked n Replaced) differs ∙ ap (λ m. with_state m old (Parked n Replaced)) (drop_put p k (standing_piece text) fresh))
        ∙ parked_back p old stands n Replaced in
        let again : undone undo new ≡ view = same_view _ _
        (back fs n (set keys at k) _ (ap (λ ks. set ks at old) has ∙ set-set keys at k old ∙ set-get_or keys at 0))
        pieces in
        record {
          means = means_replaced k text fresh _ (λ q differs. text_state p1 old (Parked n Replaced) q ∙ text_put_other p k (standing_piece text) q differs) (text_state p1 old (Parked n Replaced) k ∙ text_put_same p k (standing_piece text));
          keeps = λ q some. record {
            there = kept_state p1 old (Parked n Replaced) q (ap is_some (get_put_other p k (standing_piece text) q (not_fresh p k q fresh some)) ∙ some);
            text = text_state p1 old (Parked n Replaced) q ∙ text_put_other p k (standing_piece text) q (not_fresh p k q fresh some);
          };
          undoes = undoable (omega (arith, ap length has, length-set keys at k, there), parked_is p1 old n Replaced) (parked_once p1 old n Replaced) again;
        }

    pub is_deleted : IsEditDone view (made.deleted view n at) n (remove members at) (record { file = n; action = action.Deleted at old })
    is_deleted =
        let undo : UndoView = record { file = n; action = action.Deleted at old } in
        let new = made.deleted view n at in
        let has = keys_with fs n (remove keys at) file_there in
        let again : undone undo new ≡ view = same_view _ _
        (back fs n (remove keys at) _ (ap (λ ks. insert ks at old) has ∙ insert_removed keys at 0 there))
        (parked_back p old stands n Deleted) in
        record {
          means = (steps.deleted keyed refl there).means ∙ ap (with_pieces files n) without;
          keeps = λ q some. record { there = kept_state p old (Parked n Deleted) q some; text = text_state p old (Parked n Deleted) q };
          undoes = undoable (omega (arith, ap length has, length-remove keys at there, there), parked_is p old n Deleted) (parked_once p old n Deleted) again;
        }

    pub is_moved : (to : ℕ) → to < length keys → IsEditDone view (moved view n at to) n (insert (remove members at) to (get_or members at [])) (record { file = n; action = action.Moved at to })
    is_moved to too =
        let undo : UndoView = record { file = n; action = action.Moved at to } in
        let new = moved view n at to in
        let has = keys_with fs n (moved_list keys at to) file_there in
        let shorter = length-remove keys at there in
        let le : to ≤ length (remove keys at) = omega (arith, shorter, too) in
        let list : moved_list (moved_list keys at to) to at ≡ keys =
        ap (λ x. insert (remove (moved_list keys at to) to) at x) (get_or-insert_at (remove keys at) to old 0 le)
        ∙ ap (λ ks. insert ks at old) (remove_inserted (remove keys at) to old le) ∙ insert_removed keys at 0 there in
        let again : undone undo new ≡ view = same_view _ _ (back fs n (moved_list keys at to) _ (ap (λ ks. moved_list ks to at) has ∙ list)) refl in
        record {
          means = (steps.moved keyed refl there to).means ∙ ap (with_pieces files n) (map-insert (text_under p) (remove keys at) to old ∙ (λ i. insert (without i) to (read i)));
          keeps = λ q some. record { there = some; text = refl };
          undoes = undoable (omega (arith, ap length has, shorter, length-insert (remove keys at) to old le, there), omega (arith, ap length has, shorter, length-insert (remove keys at) to old le, too)) tt again;
        }

-- a replacement taken back: the old piece is in the place of the new one, which is dropped
module _ (view : FilesView) (n at : ℕ) (once : (q : ℕ) → places q view.keyed ≡ standing_count (finite.get view.pieces q)) where
  pub back_inserted : dropped (key_at view n at) (made.deleted view n at) ≡ reversed n (action.Inserted at) view
  back_inserted = same_view _ _ refl (drop_any view.pieces (key_at view n at) _)

  module _ (old : ℕ) (fits : Fits n (action.Replaced at old) view) where
    abbrev here : ℕ
    here = key_at view n at

    differs : old ≢ here
    differs = steps.old_differs {fs = view.keyed} {p = view.pieces} {n = n} (record { is = refl; once = once }) {at = at} refl fits.0 old fits.1

    pub back_replaced : dropped here (exchanged view n at old) ≡ reversed n (action.Replaced at old) view
    back_replaced = grind (arith, common_steps, differs, drop_any, same_view, state_drop) steps 200000

    pub parked_here : parked_under (exchanged view n at old).pieces here ≡ 1
    parked_here = ap parked_count (get_state_other (with_state view.pieces here (Parked n Replaced)) old Standing here (λ e. differs (sym e))) ∙ parked_once view.pieces here n Replaced

    pub exchanged_small : bytes_of (plain (reversed n (action.Replaced at old) view)) ≤ 4294967295 → bytes_of (plain (exchanged view n at old)) ≤ 4294967295
    exchanged_small small =
        let now = exchanged view n at old in
        let step = steps.exchanged {fs = view.keyed} {p = view.pieces} {n = n} (record { is = refl; once = once }) {at = at} refl fits.0 old fits.1 in
        let gone : places here now.keyed ≡ 0 = step.once here ∙ ap standing_count (get_state_other (with_state view.pieces here (Parked n Replaced)) old Standing here (λ e. differs (sym e))) ∙ parked_stands view.pieces here n Replaced in
        omega (arith, small, ap (λ (v : FilesView). bytes_of (plain v)) back_replaced, ap bytes_of (plain_same now.pieces (finite.remove now.pieces here) here (text_drop_other now.pieces here) now.keyed gone))

-- a new piece that is held and put in its place
pub inserted_is : {view held : FilesView} {n k : ℕ} {text : List ℕ} → IsHeld view held k text n Deleted → (at : ℕ) → reversed n (action.Deleted at k) held ≡ inserted view n at k text
inserted_is {view} {held} {n} {k} {text} new at = ap (reversed n (action.Deleted at k)) new.is ∙ same_view _ _ refl (stands_new view.pieces k text (Parked n Deleted))

pub replaced_is : {view held : FilesView} {n k : ℕ} {text : List ℕ} → IsHeld view held k text n Replaced → (at : ℕ) → key_at view n at ≢ k → exchanged held n at k ≡ replaced view n at k text
replaced_is {view} {held} {n} {k} {text} new at differs = grind (arith, common_steps, differs, exchanged_new, same_view) steps 200000

module _ {view new : FilesView} {n : ℕ} {undo : UndoView} where
  done_by : {edit : Asked} → NamesPlace edit view n → BringsOneUnit (edited_text edit) → IsMadeOf edit n view new undo → bytes_of (plain new) ≤ 4294967295
      → IsEditDone view new n (edited edit (pieces_in (plain view) n)) undo → IsDone edit view new undo
  done_by had one made within did = record {
    is_edit = is_edit had new one did.means within;
    by_keys = record { number = n; named = had.named; made = made };
    keys = did.keeps;
    undoes = did.undoes;
  }

  -- what is made of the files by keys is what the edit does
  pub done : (edit : Asked) → NamesPlace edit view n → ((q : ℕ) → places q view.keyed ≡ standing_count (finite.get view.pieces q)) → bytes_of (plain view) ≤ 4294967295
      → BringsOneUnit (edited_text edit) → IsMadeOf edit n view new undo → bytes_of (plain new) ≤ 4294967295 → IsDone edit view new undo
  done (Insert file at text) had once small one made within = done_by had one made within (rw (made.2, made.3) (is_inserted view n at once small made.0 (ended text) had.there had.among made.1))
  done (Replace file at text) had once small one made within = done_by had one made within (rw (made.2, made.3) (is_replaced view n at once small had.among made.0 (ended text) made.1))
  done (Delete file at) had once small one made within = done_by had one made within (rw (made.0, made.1) (is_deleted view n at once small had.among))
  done (Move file at to) had once small one made within = done_by had one made within (rw (made.0, made.1) (is_moved view n at once small had.among.0 to had.among.1))

-- every key but the dropped one keeps its piece, with its text
pub keeps_undone : (n : ℕ) (a : EditAction) (view : FilesView) → KeepsOthers (undone_key n a view) view (reversed n a view)
keeps_undone n a view = grind (arith, common_steps, get_drop_other, text_drop_other, text_state, cases_eq, get_state_other, get_state_same) steps 200000
