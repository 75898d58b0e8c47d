-- What pieces give, and the names that they include.
use Rattle.std.specs.Prelude.{◌≡◌, ℕ, List, Some, map, slice_get, Vec}
use Rattle.indexmap.specs.IndexSet.{IndexSet}
use Rattle.mm_text.specs.declared.word.Word.{Word}
use Rattle.mm_text.specs.declared.part.Part.{Part}
use Rattle.mm_text.specs.declared.part.PartKind.TheVariants.{Inclusion}
use Rattle.mm_text.specs.Language.Reading.{HasWords}
use Rattle.mm_text.specs.Language.Cut.{HoldsOneUnit}
use Rattle.mm_text.specs.Language.Part.{part_bytes}
use Rattle.mm_store.specs.declared.item.Item.{Item}
use Rattle.mm_store.specs.declared.walk.PlacedPiece.{PlacedPiece}
use Rattle.mm_store.specs.Language.FilesView.{PieceView, FileView}
use Rattle.mm_store.specs.Language.FileFacts.{second_word}
use Rattle.mm_store.specs.Language.Expansion.{Named, placed_item, placed_part, nameless}

abbrev pub names_in : {Y S : Type 0} → IndexSet (Vec ℕ Y) S → List (List ℕ)
names_in names = map (λ name. name.items) names.keys

-- the name that an inclusion has is the second word of its own bytes
abbrev pub IsNamed : List ℕ → Named → Type 0
IsNamed text named =
    named.part.kind ≡ Inclusion → (words : List Word) → HasWords (part_bytes text named.part) words
    → named.name ≡ second_word (part_bytes text named.part) words

-- the item that a part of a piece is
abbrev pub item_of_part : PlacedPiece → Part → Item
item_of_part spot part = placed_item (placed_part spot.file spot.piece spot.key (nameless part))

-- each piece of these files holds one unit
abbrev pub HoldUnits : List FileView → Type 0
HoldUnits files =
    (number : ℕ) (file : FileView) → slice_get files number ≡ Some file → (n : ℕ) (piece : PieceView) → slice_get file.pieces n ≡ Some piece
    → HoldsOneUnit piece.text
