-- Loading the files of a database: what is added of a file that is read, and why one is not added.
use Rattle.std.specs.Prelude.{◌≡◌, ◌≢◌, ◌≤◌, ◌⊎◌, ◌+◌, ℕ, true, List, [], ◌∷◌, ◌++◌, Option, Some, None, Result, Ok, Err, IfSome, length, ⊤}
use Rattle.std.specs.Io.KnownBytes.{Consumes}
use Rattle.mm_report.specs.mm_text.declared.fault.TextNumber.{TextNumber}
use Rattle.mm_report.specs.mm_text.declared.location.Place.{Place}
use Rattle.mm_report.specs.mm_text.Language.Cut.{IsFirstFault}
use Rattle.mm_report.specs.mm_text.Language.Place.{line_at, column_at}
use Rattle.mm_report.specs.mm_store.Language.Answers.{HasTooMany}
use Rattle.mm_report.specs.mm_store.Language.FileFacts.{IsAdded}
use Rattle.mm_report.specs.mm_store.Language.FilesView.{File, file_number}
use Rattle.mm_report.specs.mm_statement.Language.Database.{Located, IsDatabase}
use Rattle.mm_report.specs.mm_script.declared.read_stream.Reading.{Reading}
use Rattle.mm_report.specs.mm_script.Language.Stream.{calls_left, cannot_read, unread}
use Rattle.mmkeep.specs.declared.adding.FileError.{FileError}
use Rattle.mmkeep.specs.declared.adding.FileError.TheVariants as errors
use Rattle.mmkeep.specs.declared.unloaded.Unloaded.{Unloaded}
use Rattle.mmkeep.specs.declared.unloaded.Unloaded.TheVariants.{Input, Read, Memory}

-- a file of this name is added after the others, and its text is what its reader had left, if that is known
pub record AddsFile (old new : List File) (name : List ℕ) (unread : Option (List ℕ)) : Type 0 where
  pub text : List ℕ
  pub is_added : IsAdded old new name text
  pub is_text : IfSome unread (λ bytes. text ≡ bytes)

-- a text has its first fault at this place
pub record HasFaultAt (text : List ℕ) (place : Place) (number : TextNumber) : Type 0 where
  pub at : ℕ
  pub is_first : IsFirstFault text (record { at = at; number = number })
  pub is_line : place.line ≡ line_at text at
  pub is_column : place.column ≡ column_at text at

-- why a file with this text is not added to the files under a name that is new: the first fault of the text; else too many bytes; or
-- memory
abbrev pub IsTextError : List File → List ℕ → FileError → Type 0
IsTextError files text errors.Read = ⊥
IsTextError files text (errors.Text place number) = HasFaultAt text place number
IsTextError files text errors.TooMany = HasTooMany files text
IsTextError files text errors.Memory = Unit {0}

-- why a file is not added: a read failed; or the text that its reader had left is the reason, if that is known
abbrev pub IsFileError : List File → Option (List ℕ) → FileError → Type 0
IsFileError files unread errors.Read = ⊤
IsFileError files unread error = IfSome unread (λ text. IsTextError files text error)

-- of what a reader had left some bytes have come; and of the calls that a reading could make, it has made at most one for each of these
-- bytes, and one more
pub record ReadsOn {R : Type 0} (remaining : R → Option (List ℕ)) (left : Option (List ℕ)) (calls : ℕ) (reading : Reading R) : Type 0 where
  pub bytes : List ℕ
  pub come : Consumes left (unread remaining reading) bytes
  pub few : calls ≤ calls_left reading + length bytes + 1

-- What is known of a name before it is opened: nothing, that no file of it can be opened, or the bytes of the file.
pub data KnownFile : Type 0 where
  Unknown : KnownFile
  NoFile : KnownFile
  Bytes : List ℕ → KnownFile

-- an answer to the opening of a name agrees with what is known of it; a file that is there is not opened only because memory has run out
abbrev pub Opens : {F E : Type 0} → (F → Option (List ℕ)) → (E → Type 0) → KnownFile → Result F E → Type 0
Opens remaining Lacks Unknown result = ⊤
Opens remaining Lacks NoFile (Ok file) = ⊥
Opens remaining Lacks NoFile (Err error) = ⊤
Opens remaining Lacks (Bytes bytes) (Ok file) = remaining file ≡ Some bytes
Opens remaining Lacks (Bytes bytes) (Err error) = Lacks error

-- What a name gives: if the source has it, its file, whose pieces and tail are the cut of the bytes that the source holds; if the source
-- lacks it, no file.
abbrev pub GivesFile : KnownFile → List ℕ → List File → Type 0
GivesFile Unknown name files = (files ≡ []) ⊎ ((bytes : List ℕ) × IsAdded [] files name bytes)
GivesFile NoFile name files = files ≡ []
GivesFile (Bytes bytes) name files = IsAdded [] files name bytes

-- what names give: the files of the first, then those of the others, in their order
abbrev pub GivesFiles : (List ℕ → KnownFile) → List (List ℕ) → List File → Type 0
GivesFiles holds [] files = files ≡ []
GivesFiles holds (name ∷ names) files =
    (first : List File) × (later : List File) × GivesFile (holds name) name first × GivesFiles holds names later × (files ≡ first ++ later)

-- The files that are loaded from a top file on: those that the names of their database give, in the order of the first references to
-- them. So a reference to a missing file names one that the source lacks, if the
-- source says of that name what it holds.
pub record AreLoaded (holds : List ℕ → KnownFile) (top : List ℕ) (files : List File) : Type 0 where
  pub items : List Located
  pub database : IsDatabase files top items
  pub given : GivesFiles holds database.after files

-- why a file of which its reader had this left stops the loading of these files: its text is refused, if it is known; a read of it failed,
-- and this is the reading; or memory ran out
abbrev pub StopsLoading : {R : Type 0} → (R → Option (List ℕ)) → List File → Option (List ℕ) → Unloaded R → Type 0
StopsLoading remaining files unread Input = IfSome unread (λ text. (error : FileError) × (error ≢ errors.Memory) × IsTextError files text error)
StopsLoading remaining files unread (Read reading) = (cannot_read reading ≡ true) × ReadsOn remaining unread 4294967295 reading
StopsLoading remaining files unread Memory = ⊤

-- why a name of which this is known stops the loading of these files. A name that no file has does not, unless memory ran out
abbrev pub StopsAt : {R : Type 0} → (R → Option (List ℕ)) → KnownFile → List File → Unloaded R → Type 0
StopsAt remaining Unknown files unloaded = StopsLoading remaining files None unloaded
StopsAt remaining NoFile files unloaded = unloaded ≡ Memory
StopsAt remaining (Bytes bytes) files unloaded = StopsLoading remaining files (Some bytes) unloaded

-- why the top file stops the loading: as any other, or it cannot be opened
abbrev pub StopsAtTop : {R : Type 0} → (R → Option (List ℕ)) → KnownFile → List File → Unloaded R → Type 0
StopsAtTop remaining Unknown files unloaded = StopsAt remaining Unknown files unloaded
StopsAtTop remaining NoFile files unloaded = (unloaded ≡ Memory) ⊎ (unloaded ≡ Input)
StopsAtTop remaining (Bytes bytes) files unloaded = StopsAt remaining (Bytes bytes) files unloaded

-- Loading has come to this name, the next among the names of the database of the files so far: those before it give these files, no file
-- has it, and it stops the loading.
pub record StopsAtNext {R : Type 0} (remaining : R → Option (List ℕ)) (holds : List ℕ → KnownFile) (top : List ℕ) (unloaded : Unloaded R) : Type 0 where
  pub files : List File
  pub items : List Located
  pub database : IsDatabase files top items
  pub before : List (List ℕ)
  pub name : List ℕ
  pub later : List (List ℕ)
  pub are : database.after ≡ before ++ name ∷ later
  pub given : GivesFiles holds before files
  pub new : file_number files name ≡ None
  pub stops : StopsAt remaining (holds name) files unloaded

-- why the files of a database are not loaded: by the top file, or by the next of the names to which they refer
abbrev pub IsUnloaded : {R : Type 0} → (R → Option (List ℕ)) → (List ℕ → KnownFile) → List ℕ → Unloaded R → Type 0
IsUnloaded remaining holds top unloaded = StopsAtTop remaining (holds top) [] unloaded ⊎ StopsAtNext remaining holds top unloaded
