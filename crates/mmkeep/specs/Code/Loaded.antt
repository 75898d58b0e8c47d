-- Which files are there while the files of a database are loaded.
use Rattle.std.specs.Prelude.{◌≡◌, ◌≢◌, ◌⊎◌, ◌+◌, ℕ, false, List, [], ◌∷◌, Option, Some, Result, Ok, Err, None}
use Rattle.mm_report.specs.mm_store.declared.error.StoreError.{StoreError}
use Rattle.mm_report.specs.mm_store.declared.error.StoreError.TheVariants as stores
use Rattle.mm_report.specs.mm_store.Language.FilesView.{File, file_number}
use Rattle.mm_report.specs.mm_store.Language.Keyless.{bare}
use Rattle.mm_report.specs.mm_store.Language.Walking.{WalkView, IsWalk, FindsMissing}
use Rattle.mm_report.specs.mm_store.declared.item.Item.{Item}
use Rattle.mm_report.specs.mm_script.declared.read_stream.Reading.{Reading}
use Rattle.mmkeep.specs.declared.adding.FileError.{FileError}
use Rattle.mmkeep.specs.declared.adding.FileError.TheVariants as errors
use Rattle.mmkeep.specs.declared.unloaded.Unloaded.{Unloaded}
use Rattle.mmkeep.specs.declared.unloaded.Unloaded.TheVariants.{Input, Read, Memory}
use Rattle.mmkeep.specs.Language.Loading.{AddsFile, KnownFile, Unknown, NoFile, Bytes, StopsLoading}

-- a file has this name
abbrev pub HasFile : List File → List ℕ → Type 0
HasFile files name = file_number files name ≢ None

-- each file that was there is still there
abbrev pub KeepsFiles : List File → List File → Type 0
KeepsFiles old new = (name : List ℕ) → HasFile old name → HasFile new name

-- a file that was opened is added
abbrev pub AddsOpened : {F E : Type 0} → (F → Option (List ℕ)) → Result F E → List File → List File → List ℕ → Type 0
AddsOpened remaining (Ok file) old new name = AddsFile old new name (remaining file)
AddsOpened remaining (Err error) old new name = ⊥

-- a file that was opened is added; if none was, the files are as before
abbrev pub AddsIfOpened : {F E : Type 0} → (F → Option (List ℕ)) → Result F E → List File → List File → List ℕ → Type 0
AddsIfOpened remaining (Ok file) old new name = AddsFile old new name (remaining file)
AddsIfOpened remaining (Err error) old new name = new ≡ old

-- a file that was opened stops loading for this reason; or, if none was opened, this allows it
abbrev pub StopsOpened : {F E : Type 0} → (Unloaded F → Type 0) → (F → Option (List ℕ)) → Result F E → List File → Unloaded F → Type 0
StopsOpened Unopened remaining (Ok file) files unloaded = StopsLoading remaining files (remaining file) unloaded
StopsOpened Unopened remaining (Err error) files unloaded = Unopened unloaded

-- what a file that is not added, and the reading of it, are for loading
abbrev pub unloaded_by : {R : Type 0} → FileError → Reading R → Unloaded R
unloaded_by errors.Read reading = Read reading
unloaded_by (errors.Text place number) reading = Input
unloaded_by errors.TooMany reading = Input
unloaded_by errors.Memory reading = Memory

-- the top file is added: there has to be one
abbrev pub TakesTop : KnownFile → List File → List File → List ℕ → Type 0
TakesTop Unknown old new name = AddsFile old new name None
TakesTop NoFile old new name = ⊥
TakesTop (Bytes bytes) old new name = AddsFile old new name (Some bytes)

-- an included file is added, if it can be opened
abbrev pub TakesFile : KnownFile → List File → List File → List ℕ → Type 0
TakesFile Unknown old new name = (new ≡ old) ⊎ AddsFile old new name None
TakesFile NoFile old new name = new ≡ old
TakesFile (Bytes bytes) old new name = AddsFile old new name (Some bytes)

-- a walk through the files, which has gone past some items, goes on to a name that it finds missing
pub record FindsNext (files : List File) (top : List ℕ) (walk next : WalkView) (name : List ℕ) : Type 0 where
  pub items : List Item
  pub is_walk : IsWalk (bare files) top items walk
  pub finds : FindsMissing (bare files) top items walk next name

-- Loading from a top file on, up to these files and this walk through them: the top file is added, and a walk begins that has taken its
-- name alone and has reported none; then each of so many names that the walk finds missing is opened, at its first reference, and its file
-- is added, if it can be opened, before the walk goes on.
pub data Loads (holds : List ℕ → KnownFile) (top : List ℕ) : ℕ → List File → WalkView → Type 0 where
  begins : {files : List File} {walk : WalkView}
      → TakesTop (holds top) [] files top → IsWalk (bare files) top [] walk → walk.names ≡ top ∷ [] → walk.told ≡ false
      → Loads holds top 0 files walk
  takes : {names : ℕ} {files more : List File} {walk next : WalkView} {name : List ℕ}
      → Loads holds top names files walk → FindsNext files top walk next name → TakesFile (holds name) files more name
      → Loads holds top (names + 1) more next

-- the top file is loaded, and the walk begins
abbrev pub HasBegun : (List ℕ → KnownFile) → List File → WalkView → Type 0
HasBegun holds files walk = (top : List ℕ) × Loads holds top 0 files walk

-- why a text is not added under a name that is new: neither since it is known, nor since there is no top file
abbrev pub IsNewNameError : StoreError → Type 0
IsNewNameError error = (error ≢ stores.Known) × (error ≢ stores.NoTop)
