-- Several edits, one after another: all of them, or none.
use Rattle.std.specs.Prelude.{◌≡◌, ◌≢◌, ℕ, List, [], ◌∷◌, Some, take, slice_get}
use Rattle.mm_store.specs.declared.edit.EditError.{EditError}
use Rattle.mm_store.specs.declared.edit.EditError.TheVariants.{Memory}
use Rattle.mm_store.specs.declared.batch.BatchError.{BatchError}
use Rattle.mm_store.specs.declared.batch.BatchError.TheVariants as batch
use Rattle.mm_store.specs.declared.item.Item.{Item}
use Rattle.mm_store.specs.Language.Answers.{IsEditError}
use Rattle.mm_text.specs.Language.Asked.{Asked}
use Rattle.mm_store.specs.Language.Edits.{IsEditOf, IsPlaced}
use Rattle.mm_store.specs.Language.FileFacts.{CanBeRead, StandsIn, parked_in}
use Rattle.mm_store.specs.Language.FilesView.{File, FilesView}
use Rattle.mm_store.specs.Language.Undoing.{UndoView, CanSettle, CanUndo, undone, settled}

-- the edits are accepted one after another, each on the files that those before it left, and these are the files after them all
abbrev pub IsBatchOf : List Asked → List File → List File → Type 0
IsBatchOf [] files after = after ≡ files
IsBatchOf (edit ∷ edits) files after = (next : List File) × IsEditOf edit files next × IsBatchOf edits next after

-- the edit with this number, from 0, is the first that is refused, on the files that those before it left; out of memory is no such refusal
pub record IsRefusedAt (edits : List Asked) (files : List File) (n : ℕ) (error : EditError) : Type 0 where
  pub before : List File
  pub accepted : IsBatchOf (take n edits) files before
  pub edit : Asked
  pub there : slice_get edits n ≡ Some edit
  pub refused : IsEditError edit before error
  pub told : error ≢ Memory

-- the first edit names a file and members of it
abbrev pub StartsPlaced : List Asked → List File → Type 0
StartsPlaced edits files = (edit : Asked) × (number : ℕ) × (file : File) × (slice_get edits 0 ≡ Some edit) × IsPlaced files edit number file

-- why edits are not done: one is refused; or out of memory, once file and member of the first are known
abbrev pub IsBatchError : List Asked → List File → BatchError → Type 0
IsBatchError edits files (batch.Edit n error) = IsRefusedAt edits files n error
IsBatchError edits files batch.Memory = StartsPlaced edits files

-- the files with edits undone, the last of them first
abbrev pub undone_all : List UndoView → FilesView → FilesView
undone_all [] view = view
undone_all (undo ∷ undos) view = undone undo (undone_all undos view)

-- edits may be undone in these files, the last of them first
abbrev pub CanUndoAll : List UndoView → FilesView → Type 0
CanUndoAll [] view = Unit {0}
CanUndoAll (undo ∷ undos) view = CanUndoAll undos view × CanUndo undo (undone_all undos view)

-- the files with the old pieces of edits dropped, those of the last edit first
abbrev pub settled_all : List UndoView → FilesView → FilesView
settled_all [] view = view
settled_all (undo ∷ undos) view = settled undo (settled_all undos view)

-- edits may be settled in these files, the last of them first
abbrev pub CanSettleAll : List UndoView → FilesView → Type 0
CanSettleAll [] view = Unit {0}
CanSettleAll (undo ∷ undos) view = CanSettleAll undos view × CanSettle undo.action (settled_all undos view)

-- edits may be undone or settled in these files: undoing them gives the old files, and settling them leaves as many parked pieces as before
pub record IsSpendable (old new : FilesView) (undos : List UndoView) : Type 0 where
  pub can_undo : CanUndoAll undos new
  pub back : undone_all undos new ≡ old
  pub can_settle : CanSettleAll undos new
  pub parked : parked_in (settled_all undos new) ≡ parked_in old

-- an item that can be read in the old files can be read in the new ones, with the same text and the same words
pub record ReadsAlike (old new : FilesView) (item : Item) (was : CanBeRead old item) : Type 0 where
  pub read : CanBeRead new item
  pub text : read.text ≡ was.text
  pub words : read.words ≡ was.words

-- each item that can be read in the old files is read alike in the new ones
abbrev pub KeepsReading : FilesView → FilesView → Type 0
KeepsReading old new = (item : Item) (was : CanBeRead old item) → ReadsAlike old new item was

-- each item that is in the old files, and can be read there, is read alike in the new ones
abbrev pub KeepsStanding : FilesView → FilesView → Type 0
KeepsStanding old new = (item : Item) (was : CanBeRead old item) → StandsIn old item → ReadsAlike old new item was
