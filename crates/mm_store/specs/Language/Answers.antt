-- What the errors of the calls say.
use Rattle.std.specs.Prelude.{◌≡◌, ◌≢◌, ℕ, ◌+◌, ◌<◌, List, None, length, ◌⊎◌}
use Rattle.mm_text.specs.Language.Cut.{IsCut, IsFirstFault, ended}
use Rattle.mm_text.specs.declared.fault.TextError.{TextError}
use Rattle.mm_text.specs.declared.fault.TextError.TheVariants as text_errors
use Rattle.mm_store.specs.declared.error.StoreError.{StoreError}
use Rattle.mm_store.specs.declared.error.StoreError.TheVariants.{Text, TooMany, Known, NoTop, Memory}
use Rattle.mm_store.specs.declared.edit.EditError.{EditError}
use Rattle.mm_store.specs.declared.edit.EditError.TheVariants as edits
use Rattle.mm_store.specs.Language.FilesView.{File, file_number, bytes_of}
use Rattle.mm_text.specs.Language.Asked.{Asked, edited_name, edited_text}
use Rattle.mm_store.specs.Language.Edits.{IsPlaced, NamesNoMember, BringsFault, BringsNotOne, BringsOneUnit, after_edit}

-- what is reported of a text that is not read
abbrev pub store_error_of : TextError → StoreError
store_error_of (text_errors.Fault fault) = Text fault
store_error_of text_errors.Memory = Memory

-- why the text of an edit is refused: its fault; or out of memory
abbrev pub edit_error_of : TextError → EditError
edit_error_of (text_errors.Fault fault) = edits.Text fault
edit_error_of text_errors.Memory = edits.Memory

-- the text has a cut, and with it the files would have too many bytes
pub record HasTooMany (files : List File) (text : List ℕ) : Type 0 where
  pub pieces : List (List ℕ)
  pub tail : List ℕ
  pub is_cut : IsCut text pieces tail
  pub too_many : 4294967295 < bytes_of files + length (ended text)

-- why a text is not added to the files under a name: the name is there; else a fault of the text; else too many bytes; or out of memory,
-- for a name that is not there
abbrev pub IsAddError : List File → List ℕ → List ℕ → StoreError → Type 0
IsAddError files name text Known = file_number files name ≢ None
IsAddError files name text (Text fault) = (file_number files name ≡ None) × IsFirstFault text fault
IsAddError files name text TooMany = (file_number files name ≡ None) × HasTooMany files text
IsAddError files name text NoTop = ⊥
IsAddError files name text Memory = file_number files name ≡ None

-- a fault is reported at a byte of the text
abbrev pub IsAddErrorIn : List ℕ → StoreError → Type 0
IsAddErrorIn text (Text fault) = fault.at < length text
IsAddErrorIn text _ = Unit {0}

-- why files have no list of items: they have no top file; or out of memory
abbrev pub IsExpansionError : StoreError → Type 0
IsExpansionError error = (error ≡ NoTop) ⊎ (error ≡ Memory)

-- the edit brings a text; only such an edit may run out of memory
abbrev pub TakesMemory : Asked → Type 0
TakesMemory edit = edited_text edit ≢ None

-- why an edit is refused. The first that holds in this order is the reason. No file has its name. Its file has only this many pieces, and
-- the edit names another. Its text has a fault. Its text is not one unit but this many. The files would have more bytes than they may. Or
-- memory runs out
abbrev pub IsEditError : Asked → List File → EditError → Type 0
IsEditError edit files edits.NoFile = file_number files (edited_name edit) ≡ None
IsEditError edit files (edits.NoPiece count) = NamesNoMember edit files count
IsEditError edit files (edits.Text fault) = (number : ℕ) × (file : File) × IsPlaced files edit number file × BringsFault (edited_text edit) fault
IsEditError edit files (edits.NotOne count) = (number : ℕ) × (file : File) × IsPlaced files edit number file × BringsNotOne (edited_text edit) count
IsEditError edit files edits.TooMany =
    (number : ℕ) × (file : File) × IsPlaced files edit number file × BringsOneUnit (edited_text edit)
    × (4294967295 < bytes_of (after_edit files edit number file))
IsEditError edit files edits.Memory = (number : ℕ) × (file : File) × IsPlaced files edit number file × TakesMemory edit
