-- What is left of edits that were done one after another, and what one edit more does.
use Rattle.std.specs.Prelude.{◌≡◌, ◌≢◌, ℕ, List}
use Rattle.std.specs.FinMap as finite
use Rattle.mm_store.specs.declared.edit.EditError.{EditError}
use Rattle.mm_store.specs.declared.edit.EditError.TheVariants as edits
use Rattle.mm_store.specs.declared.batch.BatchError.{BatchError}
use Rattle.mm_store.specs.declared.batch.BatchError.TheVariants as batch
use Rattle.mm_store.specs.Language.Undoing.{UndoView}
use Rattle.mm_store.specs.declared.batch.Undos.TheInside.{Inside}
use Rattle.mm_store.specs.Language.Answers.{IsEditError}
use Rattle.mm_text.specs.Language.Asked.{Asked}
use Rattle.mm_store.specs.Language.Edits.{IsPlaced}
use Rattle.mm_store.specs.Language.FilesView.{File, FilesView}
use Rattle.mm_store.specs.Code.Kept.{places, standing_count}

abbrev pub undos_of : Inside → List UndoView
undos_of inside = inside.undos.items

-- a piece that is not parked is at one place of the files, and a parked one at none
abbrev pub StandOnce : FilesView → Type 0
StandOnce view = (k : ℕ) → places k view.keyed ≡ standing_count (finite.get view.pieces k)

-- what is reported of the edit with this number
abbrev pub refusal : ℕ → EditError → BatchError
refusal number edits.NoFile = batch.Edit number edits.NoFile
refusal number (edits.NoPiece count) = batch.Edit number (edits.NoPiece count)
refusal number (edits.Text fault) = batch.Edit number (edits.Text fault)
refusal number (edits.NotOne count) = batch.Edit number (edits.NotOne count)
refusal number edits.TooMany = batch.Edit number edits.TooMany
refusal number edits.Memory = batch.Memory

-- why the edit with this number is not done: it is refused, and not for out of memory; or out of memory, once its file and its members
-- are known
abbrev pub IsNextError : Asked → List File → ℕ → BatchError → Type 0
IsNextError edit files number (batch.Edit n error) = (n ≡ number) × IsEditError edit files error × (error ≢ edits.Memory)
IsNextError edit files number batch.Memory = (at : ℕ) × (file : File) × IsPlaced files edit at file
