-- What an edit makes of the files by keys: where the key of the new piece is, which key is parked, and what is kept to undo the edit.
use Rattle.std.specs.Prelude.{◌≡◌, ℕ, List, [], ◌∷◌, Some, None, slice_set}
use Rattle.std.specs.List.{insert, remove}
use Rattle.std.specs.FinMap as finite
use Rattle.mm_text.specs.Language.Cut.{ended}
use Rattle.mm_text.specs.Language.Asked.{Asked, Insert, Replace, Delete, Move, edited_name}
use Rattle.mm_store.specs.Language.FilesView.{FilesView, file_number, plain}
use Rattle.mm_store.specs.Language.Pieces.{Parked, Replaced, Deleted, standing_piece, with_state}
use Rattle.mm_store.specs.Language.Undoing as action
use Rattle.mm_store.specs.Language.Undoing.{UndoView, keys_in, with_keys, key_at, moved}

-- a new member under this key, with this text, is put before member `at`
abbrev pub inserted : FilesView → ℕ → ℕ → ℕ → List ℕ → FilesView
inserted view number at key text = record {
  keyed = with_keys view.keyed number (insert (keys_in view.keyed number) at key);
  pieces = finite.insert view.pieces key (standing_piece text);
}

-- a new member under this key takes the place of member `at`, which is parked
abbrev pub replaced : FilesView → ℕ → ℕ → ℕ → List ℕ → FilesView
replaced view number at key text = record {
  keyed = with_keys view.keyed number (slice_set (keys_in view.keyed number) at key);
  pieces = with_state (finite.insert view.pieces key (standing_piece text)) (key_at view number at) (Parked number Replaced);
}

-- member `at` is taken out and parked
abbrev pub deleted : FilesView → ℕ → ℕ → FilesView
deleted view number at = record {
  keyed = with_keys view.keyed number (remove (keys_in view.keyed number) at);
  pieces = with_state view.pieces (key_at view number at) (Parked number Deleted);
}

-- the edit of the file of this number makes these files of the old ones, by keys, and leaves this to be undone: a new piece has a key that
-- no piece had; the piece of a replaced or a deleted member is parked under its key; a moved member keeps its key
abbrev pub IsMadeOf : Asked → ℕ → FilesView → FilesView → UndoView → Type 0
IsMadeOf (Insert file at text) number old new undo =
    (key : ℕ) × (finite.get old.pieces key ≡ None) × (new ≡ inserted old number at key (ended text))
    × (undo ≡ record { file = number; action = action.Inserted at })
IsMadeOf (Replace file at text) number old new undo =
    (key : ℕ) × (finite.get old.pieces key ≡ None) × (new ≡ replaced old number at key (ended text))
    × (undo ≡ record { file = number; action = action.Replaced at (key_at old number at) })
IsMadeOf (Delete file at) number old new undo =
    (new ≡ deleted old number at) × (undo ≡ record { file = number; action = action.Deleted at (key_at old number at) })
IsMadeOf (Move file at to) number old new undo =
    (new ≡ moved old number at to) × (undo ≡ record { file = number; action = action.Moved at to })

-- what an accepted edit makes of the files, by keys
pub record IsEditByKeys (edit : Asked) (old new : FilesView) (undo : UndoView) : Type 0 where
  pub number : ℕ
  pub named : file_number (plain old) (edited_name edit) ≡ Some number
  pub made : IsMadeOf edit number old new undo

-- what accepted edits make of the files, by keys, each after those before it; what is kept to undo them is in their order
abbrev pub IsBatchByKeys : List Asked → FilesView → FilesView → List UndoView → Type 0
IsBatchByKeys [] old new [] = new ≡ old
IsBatchByKeys (edit ∷ edits) old new (undo ∷ undos) =
    (next : FilesView) × IsEditByKeys edit old next undo × IsBatchByKeys edits next new undos
IsBatchByKeys [] old new (undo ∷ undos) = ⊥
IsBatchByKeys (edit ∷ edits) old new [] = ⊥

-- how many pieces an edit parks
abbrev pub parks : Asked → ℕ
parks (Insert file at text) = 0
parks (Replace file at text) = 1
parks (Delete file at) = 1
parks (Move file at to) = 0
