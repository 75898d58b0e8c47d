-- What is reported of items that are kept as bytes under keys: places and words by these bytes, and the fault or the verdict.
use Rattle.std.specs.Prelude.{◌≡◌, ℕ, ◌+◌, Option, Some, None, List, [], length, slice_get, slice_range}
use Rattle.mm_proof.specs.mm_text.declared.word.Word.{Word}
use Rattle.mm_proof.specs.mm_text.Language.Place.{line_at, column_at}
use Rattle.mm_proof.specs.mm_store.declared.item.Item as store
use Rattle.mm_proof.specs.mm_store.Language.FilesView.{FilesView}
use Rattle.mm_proof.specs.mm_store.Language.FileFacts.{CanBeRead, StandsIn, IsByte}
use Rattle.mm_proof.specs.mm_frame.Language.Base.{BaseView, fault_at, said_at}
use Rattle.mm_proof.specs.mm_frame.declared.FrameNumber.{FrameNumber}
use Rattle.mm_proof.specs.mm_machine.declared.Spot.{Spot}
use Rattle.mm_proof.specs.mm_machine.declared.Verdict.{Verdict}
use Rattle.mm_proof.specs.mm_machine.declared.Verdict.TheVariants as verdicts
use Rattle.mm_keep.specs.declared.finding.At.{At}
use Rattle.mm_keep.specs.Language.Told.{Shown, Told, Quiet, AnAxiom, Proved, Incomplete, Wrong, Fault, IsQuiet, IsAxiom, HasProofVerdict}
use Rattle.mm_keep.specs.Language.WordPlaces.{proof_word}

-- the byte at which a word begins; 0 if there is none
abbrev pub word_start : Option Word → ℕ
word_start None = 0
word_start (Some word) = word.start

-- how a word of a text is spelled; empty if there is none
abbrev pub word_spelling : List ℕ → Option Word → List ℕ
word_spelling text None = []
word_spelling text (Some word) = slice_range text word.start word.end

-- the byte with number `letter` of the word with number `word` of an item is byte `offset` of the text of its file
pub record IsByteOfWord (files : FilesView) (item : store.Item) (word letter offset : ℕ) : Type 0 where
  pub stands : StandsIn files item
  pub read : CanBeRead files item
  pub text : List ℕ
  pub byte : IsByte files item.file item.piece (item.start + (word_start (slice_get read.words word) + letter)) text offset

-- the byte with number `letter` of the word with number `word` of an item has this place: file, line and column
pub record HasKeyedPlace (files : FilesView) (item : store.Item) (word letter : ℕ) (at : At) : Type 0 where
  pub offset : ℕ
  pub is_byte : IsByteOfWord files item word letter offset
  pub in_file : at.file ≡ item.file
  pub line : at.line ≡ line_at is_byte.text offset
  pub column : at.column ≡ column_at is_byte.text offset

-- a spot in the proof of the item with this number has this place; the word after the last one of the proof is the `$.` of the statement
pub record IsKeyedPlaceOfSpot (files : FilesView) (found : List store.Item) (view : BaseView) (n : ℕ) (spot : Spot) (at : At) : Type 0 where
  pub item : store.Item
  pub there : slice_get found n ≡ Some item
  pub has_place : HasKeyedPlace files item (proof_word (said_at view n) spot.word) spot.letter at

-- the word with this number of an item is shown with its place and its spelling
pub record IsKeyedShown (files : FilesView) (item : store.Item) (word : ℕ) (shown : Shown) : Type 0 where
  pub has_place : HasKeyedPlace files item word 0 shown.at
  pub is_word : shown.word ≡ word_spelling (slice_range has_place.is_byte.read.text item.start item.end) (slice_get has_place.is_byte.read.words word)

-- what is reported is the fault with this number, at this word of an item
abbrev pub TellsFaultAt : FilesView → store.Item → ℕ → FrameNumber → Told → Type 0
TellsFaultAt files item word number one = (shown : Shown) × (one ≡ Fault number shown) × IsKeyedShown files item word shown

-- the item with this number has this fault, shown at the word that has it
pub record IsKeyedFault (files : FilesView) (found : List store.Item) (view : BaseView) (n : ℕ) (number : FrameNumber) (shown : Shown) : Type 0 where
  pub word : ℕ
  pub fault : fault_at view n ≡ Some (word, number)
  pub item : store.Item
  pub there : slice_get found n ≡ Some item
  pub is_shown : IsKeyedShown files item word shown

-- the item with this number is a sound `$p`, the verdict on its proof names a spot, and that spot has this place
pub record HasKeyedVerdict (files : FilesView) (found : List store.Item) (view : BaseView) (n : ℕ) (verdict : Spot → Verdict) (at : At) : Type 0 where
  pub spot : Spot
  pub has_verdict : HasProofVerdict view n (verdict spot)
  pub is_place : IsKeyedPlaceOfSpot files found view n spot at

-- this is what is rightly reported of the item with this number: by its fault, its kind, or the verdict on its proof
abbrev pub IsKeyedTold : FilesView → List store.Item → BaseView → ℕ → Told → Type 0
IsKeyedTold files found view n Quiet = IsQuiet view n
IsKeyedTold files found view n AnAxiom = IsAxiom view n
IsKeyedTold files found view n Proved = HasProofVerdict view n verdicts.Proved
IsKeyedTold files found view n (Incomplete at) = HasKeyedVerdict files found view n verdicts.Incomplete at
IsKeyedTold files found view n (Wrong number at) = HasKeyedVerdict files found view n (verdicts.Wrong number) at
IsKeyedTold files found view n (Fault number shown) = IsKeyedFault files found view n number shown

-- this is what is rightly reported of all items, one for each, in order
pub record AreKeyedTold (files : FilesView) (found : List store.Item) (view : BaseView) (all : List Told) : Type 0 where
  pub count : length all ≡ length view
  pub each : (n : ℕ) (one : Told) → slice_get all n ≡ Some one → IsKeyedTold files found view n one
