-- What contracts say of files: the text under a key, where an item and a byte of a piece are, and what adding a file does.
use Rattle.std.specs.Prelude.{◌≡◌, ℕ, ◌+◌, ◌<◌, ◌≤◌}
use Rattle.std.specs.Prelude.{List, [], ◌∷◌, ◌++◌, Some, None, IsSome, All, length, take, slice_get, slice_range}
use Rattle.std.specs.List.{concat}
use Rattle.std.specs.FinMap as finite
use Rattle.mm_text.specs.declared.word.Word.{Word}
use Rattle.mm_text.specs.Language.Reading.{HasWords}
use Rattle.mm_text.specs.Language.Cut.{IsCut}
use Rattle.mm_store.specs.declared.key.PieceKey.{PieceKey}
use Rattle.mm_store.specs.declared.item.Item.{Item}
use Rattle.mm_store.specs.declared.item.ItemKind.TheVariants.{Missing}
use Rattle.mm_store.specs.Language.Pieces.{HeldPiece, parked_pieces}
use Rattle.mm_store.specs.Language.FilesView.{KeyedFile, FilesView, File, files_in, number_of, plain, text_of}

-- the piece under a key has this text, whether it is in a file or parked
pub record IsLive (files : FilesView) (key : PieceKey) (text : List ℕ) : Type 0 where
  pub piece : HeldPiece
  pub held : finite.get files.pieces key.at ≡ Some piece
  pub is_text : text ≡ piece.text

-- each key in a file has a piece
abbrev pub HoldsPieces : FilesView → Type 0
HoldsPieces files = All (λ file. All (λ key. IsSome (finite.get files.pieces key)) file.keys) files.keyed

-- an item can be read by its key: its piece has a text, and the item at least one byte in it; and the item's bytes are by themselves a
-- text with at least one word
pub record CanBeRead (files : FilesView) (item : Item) : Type 0 where
  pub text : List ℕ
  pub live : IsLive files item.key text
  pub some : item.start < item.end
  pub within : item.end ≤ length text
  pub words : List Word
  pub has_words : HasWords (slice_range text item.start item.end) words
  pub some_word : 0 < length words

-- an item is where it says: in the file with its number, the piece with its number is the one under its key
pub record StandsIn (files : FilesView) (item : Item) : Type 0 where
  pub file : KeyedFile
  pub there : slice_get files.keyed item.file ≡ Some file
  pub is_key : slice_get file.keys item.piece ≡ Some item.key.at

-- the second word of bytes; no bytes if there is none
abbrev pub second_word : List ℕ → List Word → List ℕ
second_word bytes words = elim (slice_get words 1) [ None ↦ [] | Some word ↦ slice_range bytes word.start word.end ]

-- if an item is a reference to a missing file, no file has the name that is the second word of the item's bytes
abbrev pub NamesNoFile : FilesView → Item → Type 0
NamesNoFile files item =
    item.kind ≡ Missing → (text : List ℕ) (words : List Word) → IsLive files item.key text → HasWords (slice_range text item.start item.end) words
    → number_of (files_in files) (second_word (slice_range text item.start item.end) words) ≡ None

-- how many bytes of a file are before the piece with this number
abbrev pub piece_offset : File → ℕ → ℕ
piece_offset file piece = length (concat (take piece file.pieces))

-- byte `at` of a piece of a file, or the end of the piece, is byte `offset` of the text of that file
pub record IsByte (files : FilesView) (number piece at : ℕ) (text : List ℕ) (offset : ℕ) : Type 0 where
  pub file : File
  pub there : slice_get (plain files) number ≡ Some file
  pub is_text : text ≡ text_of file
  pub bytes : List ℕ
  pub is_piece : slice_get file.pieces piece ≡ Some bytes
  pub within : at ≤ length bytes
  pub is_offset : offset ≡ piece_offset file piece + at

-- a file of this name is after the others; its pieces and its tail are the cut of the text
pub record IsAdded (old new : List File) (name text : List ℕ) : Type 0 where
  pub file : File
  pub last : new ≡ old ++ file ∷ []
  pub is_name : file.name ≡ name
  pub is_cut : IsCut text file.pieces file.tail

-- each key that has a piece, in a file or parked, keeps it as it is
abbrev pub KeepsPieces : FilesView → FilesView → Type 0
KeepsPieces old new = (key : ℕ) → IsSome (finite.get old.pieces key) → finite.get new.pieces key ≡ finite.get old.pieces key

-- how many pieces of the files are parked
abbrev pub parked_in : FilesView → ℕ
parked_in files = parked_pieces files.pieces
