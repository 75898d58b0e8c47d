-- What undoing and settling an edit make of the files, and when each may be done.
use Rattle.std.specs.Prelude.{◌≡◌, ◌≢◌, ℕ, zero, suc, ◌<◌, ◌≤◌, List, [], ◌∷◌, Option, Some, None, IsSome, length, slice_index_or, slice_set}
use Rattle.std.specs.List.{insert, remove}
use Rattle.std.specs.FinMap as finite
use Rattle.mm_store.specs.Language.Pieces.{Standing, with_state, IsParked, parked_under, text_under}
use Rattle.mm_store.specs.Language.Pieces as removal
use Rattle.mm_store.specs.Language.FilesView.{KeyedFile, FilesView, plain, bytes_of}

-- what an edit did in its file. It inserted a new member with this number. Or it replaced the member with this number, or deleted it, and
-- the old piece is parked under this key. Or it moved a member from the first number to the second
pub data EditAction : Type 0 where
  Inserted : ℕ → EditAction
  Replaced : ℕ → ℕ → EditAction
  Deleted : ℕ → ℕ → EditAction
  Moved : ℕ → ℕ → EditAction

-- what is kept of an edit until it is undone or settled: the number of its file, and what it did there
pub record UndoView : Type 0 where
  pub file : ℕ
  pub action : EditAction

-- the keys of the file of this number
abbrev pub keys_in : List KeyedFile → ℕ → List ℕ
keys_in [] n = []
keys_in (file ∷ files) zero = file.keys
keys_in (file ∷ files) (suc n) = keys_in files n

-- the files with other keys in the file of this number
abbrev pub with_keys : List KeyedFile → ℕ → List ℕ → List KeyedFile
with_keys [] n keys = []
with_keys (file ∷ files) zero keys = record { name = file.name; keys = keys; tail = file.tail } ∷ files
with_keys (file ∷ files) (suc n) keys = file ∷ with_keys files n keys

-- the key of a member
abbrev pub key_at : FilesView → ℕ → ℕ → ℕ
key_at view number at = slice_index_or (keys_in view.keyed number) at 0

-- the list with its member `at` taken out and put back as member `to`
abbrev pub moved_list : List ℕ → ℕ → ℕ → List ℕ
moved_list keys at to = insert (remove keys at) to (slice_index_or keys at 0)

-- the files with a member taken out and put back with another number
abbrev pub moved : FilesView → ℕ → ℕ → ℕ → FilesView
moved view number at to = record {
  keyed = with_keys view.keyed number (moved_list (keys_in view.keyed number) at to);
  pieces = view.pieces;
}

-- the files with an edit undone: its new piece is dropped, and its old piece is in its place again
abbrev pub reversed : ℕ → EditAction → FilesView → FilesView
reversed number (Inserted at) view = record {
  keyed = with_keys view.keyed number (remove (keys_in view.keyed number) at);
  pieces = finite.remove view.pieces (key_at view number at);
}
reversed number (Replaced at key) view = record {
  keyed = with_keys view.keyed number (slice_set (keys_in view.keyed number) at key);
  pieces = with_state (finite.remove view.pieces (key_at view number at)) key Standing;
}
reversed number (Deleted at key) view = record {
  keyed = with_keys view.keyed number (insert (keys_in view.keyed number) at key);
  pieces = with_state view.pieces key Standing;
}
reversed number (Moved at to) view = moved view number to at

-- the files with an edit undone
abbrev pub undone : UndoView → FilesView → FilesView
undone undo view = reversed undo.file undo.action view

-- the members that the undo speaks of are there, and its old piece is parked by an edit of its kind in its file
abbrev pub Fits : ℕ → EditAction → FilesView → Type 0
Fits number (Inserted at) view = at < length (keys_in view.keyed number)
Fits number (Replaced at key) view = (at < length (keys_in view.keyed number)) × IsParked view.pieces key number removal.Replaced
Fits number (Deleted at key) view = (at ≤ length (keys_in view.keyed number)) × IsParked view.pieces key number removal.Deleted
Fits number (Moved at to) view = (at < length (keys_in view.keyed number)) × (to < length (keys_in view.keyed number))

-- an edit may be undone in these files
pub record CanUndo (undo : UndoView) (view : FilesView) : Type 0 where
  pub fits : Fits undo.file undo.action view
  pub within : bytes_of (plain (undone undo view)) ≤ 4294967295

-- the files with the piece under a key dropped
abbrev pub dropped : ℕ → FilesView → FilesView
dropped key view = record { keyed = view.keyed; pieces = finite.remove view.pieces key }

-- the files with the old piece of an edit dropped
abbrev pub spent : EditAction → FilesView → FilesView
spent (Inserted at) view = view
spent (Replaced at key) view = dropped key view
spent (Deleted at key) view = dropped key view
spent (Moved at to) view = view

-- the files with an edit settled: what was kept to undo it is dropped
abbrev pub settled : UndoView → FilesView → FilesView
settled undo view = spent undo.action view

-- an edit may be settled in these files: its old piece, if it has one, is parked
abbrev pub CanSettle : EditAction → FilesView → Type 0
CanSettle (Inserted at) view = Unit {0}
CanSettle (Replaced at key) view = parked_under view.pieces key ≡ 1
CanSettle (Deleted at key) view = parked_under view.pieces key ≡ 1
CanSettle (Moved at to) view = Unit {0}

-- an edit may be undone or settled in these files, and undoing it gives the old files
pub record IsUndoable (old new : FilesView) (undo : UndoView) : Type 0 where
  pub can_undo : CanUndo undo new
  pub can_settle : CanSettle undo.action new
  pub back : undone undo new ≡ old

-- a key that has a piece keeps it, with its text
pub record KeepsText (old new : FilesView) (key : ℕ) : Type 0 where
  pub there : IsSome (finite.get new.pieces key)
  pub text : text_under new.pieces key ≡ text_under old.pieces key

-- each key that has a piece, in a file or parked, keeps it with its text
abbrev pub KeepsKeys : FilesView → FilesView → Type 0
KeepsKeys old new = (key : ℕ) → IsSome (finite.get old.pieces key) → KeepsText old new key

-- each key that has a piece, in a file or parked, keeps it with its text, except the one that is dropped
abbrev pub KeepsOthers : Option ℕ → FilesView → FilesView → Type 0
KeepsOthers dropped old new = (key : ℕ) → dropped ≢ Some key → IsSome (finite.get old.pieces key) → KeepsText old new key

-- the key whose piece is dropped when an edit is undone, if there is one
abbrev pub undone_key : ℕ → EditAction → FilesView → Option ℕ
undone_key number (Inserted at) view = Some (key_at view number at)
undone_key number (Replaced at key) view = Some (key_at view number at)
undone_key number (Deleted at key) view = None
undone_key number (Moved at to) view = None

-- the key whose piece is dropped when an edit is settled, if there is one
abbrev pub settled_key : EditAction → Option ℕ
settled_key (Inserted at) = None
settled_key (Replaced at key) = Some key
settled_key (Deleted at key) = Some key
settled_key (Moved at to) = None
