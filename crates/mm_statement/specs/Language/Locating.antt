-- An item that is kept as bytes of a piece under a key, and the same item where it stands.
use Rattle.std.specs.Prelude.{◌≡◌, map, slice_range}
use Rattle.mm_store.specs.mm_text.Language.Stretch.{moved}
use Rattle.mm_store.specs.mm_text.Language.Unit.{tokens_of}
use Rattle.mm_store.specs.declared.item.Item as store
use Rattle.mm_store.specs.Language.FilesView.{FilesView}
use Rattle.mm_store.specs.Language.FileFacts.{CanBeRead, StandsIn}
use Rattle.mm_statement.specs.Language.Database.{Located, first_byte}

-- the item stands where the other says: in the same piece of the same file; its words are those of the bytes of the other, so that byte
-- `letter` of a word is byte `start` of the other, and the word's `start` and `letter` more, of the piece
pub record IsLocated (files : FilesView) (item : store.Item) (one : Located) : Type 0 where
  pub stands : StandsIn files item
  pub read : CanBeRead files item
  pub file : one.file ≡ item.file
  pub piece : one.piece ≡ item.piece
  pub begins : first_byte one.words ≡ item.start
  pub words : (read : CanBeRead files item) → one.words ≡ map (moved item.start) (tokens_of (slice_range read.text item.start item.end) read.words)
