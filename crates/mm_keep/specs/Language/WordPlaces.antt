-- Where words of items are, and bytes of these words, in the texts of the files.
use Rattle.std.specs.Prelude.{◌≡◌, ◌≤◌, ℕ, ◌+◌, Option, Some, None, List, [], length, slice_get}
use Rattle.mm_proof.specs.mm_text.Language.Place.{line_at, column_at}
use Rattle.mm_proof.specs.mm_text.Language.Unit.{Token}
use Rattle.mm_proof.specs.mm_store.Language.FilesView.{File, text_of}
use Rattle.mm_proof.specs.mm_store.Language.FileFacts.{piece_offset}
use Rattle.mm_proof.specs.mm_statement.Language.Database.{Located, first_byte}
use Rattle.mm_proof.specs.mm_statement.Language.Item.{Said}
use Rattle.mm_proof.specs.mm_statement.Language.Statement.{symbols_from}
use Rattle.mm_proof.specs.mm_machine.declared.Spot.{Spot}
use Rattle.mm_keep.specs.declared.finding.At.{At}

-- the byte of a piece at which a word of an item begins; at which the item does, if it has no such word
abbrev pub start_of : Located → Option Token → ℕ
start_of item None = first_byte item.words
start_of item (Some word) = word.start

-- how a word is spelled; empty if there is none
abbrev pub spelled : Option Token → List ℕ
spelled None = []
spelled (Some word) = word.bytes

-- the byte of the text of its file that is byte `letter` of word `word` of an item
abbrev pub word_offset : File → Located → ℕ → ℕ → ℕ
word_offset file item word letter = piece_offset file item.piece + (start_of item (slice_get item.words word) + letter)

-- byte `letter` of word `word` of an item, or the byte behind the word, has this place: file, line and column
pub record HasPlace (files : List File) (item : Located) (word letter : ℕ) (at : At) : Type 0 where
  pub within : letter ≤ length (spelled (slice_get item.words word))
  pub file : File
  pub there : slice_get files item.file ≡ Some file
  pub in_file : at.file ≡ item.file
  pub line : at.line ≡ line_at (text_of file) (word_offset file item word letter)
  pub column : at.column ≡ column_at (text_of file) (word_offset file item word letter)

-- the number among all words of a statement of the word with number n of its proof, which begins after the symbols and the `$=`
abbrev pub proof_word : Said → ℕ → ℕ
proof_word item n = symbols_from item.kind + length item.symbols + 1 + n

-- a spot in the proof of the item with this number has this place; the word after the last one of the proof is the `$.` of the statement
pub record IsPlaceOfSpot (files : List File) (items : List Located) (n : ℕ) (spot : Spot) (at : At) : Type 0 where
  pub item : Located
  pub there : slice_get items n ≡ Some item
  pub has_place : HasPlace files item (proof_word item.said spot.word) spot.letter at
