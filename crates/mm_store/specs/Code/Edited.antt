-- What each edit makes of the files, by keys.
use Rattle.std.specs.Prelude.{◌≡◌, ℕ, ◌<◌, length, Some, zero, suc, List, [], ◌∷◌, ◌++◌, None, slice_set}
use Rattle.std.specs.FinMap as finite
use Rattle.mm_store.specs.Language.Edits.{IsEditOf}
use Rattle.mm_store.specs.Language.FilesView.{File, FilesView, plain, file_number}
use Rattle.mm_text.specs.Language.Asked.{Asked, edited_name, IsAmong}
use Rattle.mm_store.specs.Language.Undoing.{UndoView, keys_in, key_at, with_keys, KeepsKeys, IsUndoable}
use Rattle.mm_store.specs.Language.EditedKeys.{IsEditByKeys}
use Rattle.mm_store.specs.Language.Pieces.{Removal, Replaced, Standing, Parked, with_state}

-- the members of the file of this number
abbrev pub pieces_in : List File → ℕ → List (List ℕ)
pieces_in [] n = []
pieces_in (file ∷ files) zero = file.pieces
pieces_in (file ∷ files) (suc n) = pieces_in files n

-- the files with other members in the file of this number
abbrev pub with_pieces : List File → ℕ → List (List ℕ) → List File
with_pieces [] n pieces = []
with_pieces (file ∷ files) zero pieces = record { name = file.name; pieces = pieces; tail = file.tail } ∷ files
with_pieces (file ∷ files) (suc n) pieces = file ∷ with_pieces files n pieces

-- an edit was done, and this is kept to undo it
pub record IsDone (edit : Asked) (old new : FilesView) (undo : UndoView) : Type 0 where
  pub is_edit : IsEditOf edit (plain old) (plain new)
  pub by_keys : IsEditByKeys edit old new undo
  pub keys : KeepsKeys old new
  pub undoes : IsUndoable old new undo

-- a new piece is held under a key that no piece had, parked as if it had been taken out of the file of this number in this way
pub record IsHeld (old new : FilesView) (key : ℕ) (text : List ℕ) (number : ℕ) (removal : Removal) : Type 0 where
  pub fresh : finite.get old.pieces key ≡ None
  pub is : new ≡ record { keyed = old.keyed; pieces = finite.insert old.pieces key (record { text = text; state = Parked number removal }) }

-- the files with a parked piece in the place of a member, whose piece is parked
abbrev pub exchanged : FilesView → ℕ → ℕ → ℕ → FilesView
exchanged view number at key = record {
  keyed = with_keys view.keyed number (slice_set (keys_in view.keyed number) at key);
  pieces = with_state (with_state view.pieces (key_at view number at) (Parked number Replaced)) key Standing;
}

-- the files with one more, of this name, with these members and this tail
abbrev pub with_file : List File → List ℕ → List (List ℕ) → List ℕ → List File
with_file files name pieces tail = files ++ record { name = name; pieces = pieces; tail = tail } ∷ []

-- an edit names this file, and places that it has
pub record NamesPlace (edit : Asked) (view : FilesView) (number : ℕ) : Type 0 where
  pub named : file_number (plain view) (edited_name edit) ≡ Some number
  pub there : number < length view.keyed
  pub among : IsAmong edit (length (keys_in view.keyed number))
