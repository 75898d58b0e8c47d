-- The expansion: the items that the top file gives, with the contents of other files in the place of the commands
-- that include them (the Metamath book, section 4.1.2).
use Rattle.std.specs.Prelude.{◌≡◌, ℕ, ◌+◌, true, List, [], ◌∷◌, ◌++◌, Some, None, Contains, map, slice_get}
use Rattle.mm_text.specs.declared.word.Word.{Word}
use Rattle.mm_text.specs.declared.part.Part.{Part}
use Rattle.mm_text.specs.declared.part.PartKind.{PartKind}
use Rattle.mm_text.specs.declared.part.PartKind.TheVariants as parts
use Rattle.mm_text.specs.Language.Reading.{HasWords}
use Rattle.mm_text.specs.Language.Unit.{Shape, Inclusion, Units, Nothing, Simple, Block, AreUnits, unit_tokens, tokens_of}
use Rattle.mm_text.specs.Language.Part.{part, shape_part}
use Rattle.mm_store.specs.declared.key.PieceKey.{PieceKey}
use Rattle.mm_store.specs.declared.item.Item.{Item}
use Rattle.mm_store.specs.declared.item.ItemKind.{ItemKind}
use Rattle.mm_store.specs.declared.item.ItemKind.TheVariants as items
use Rattle.mm_store.specs.Language.FilesView.{PieceView, FileView, number_of}

-- a part of units, and the name of the file that it includes; the name is empty if the part is no inclusion
pub record Named : Type 0 where
  pub part : Part
  pub name : List ℕ

-- the name between the `$[` and the `$]` of an inclusion
abbrev pub included_name : Shape → List ℕ
included_name (Inclusion begin name end) = name.bytes
included_name _ = []

-- a part that includes no file
abbrev pub nameless : Part → Named
nameless part = record { part = part; name = [] }

-- the parts of units, in order: each statement, inclusion, and beginning and end of a block, with the name that it includes
abbrev pub named_parts : Units → List Named
named_parts Nothing = []
named_parts (Simple shape later) = record { part = shape_part shape; name = included_name shape } ∷ named_parts later
named_parts (Block begin inner end later) =
    nameless (part parts.BlockStart begin begin) ∷ (named_parts inner ++ nameless (part parts.BlockEnd end end) ∷ named_parts later)

-- a part of a piece: where the piece is (the number of its file, its number in it, its key), the name that the part includes, and the part
pub record Placed : Type 0 where
  pub file : ℕ
  pub piece : ℕ
  pub key : PieceKey
  pub name : List ℕ
  pub part : Part

-- the kind of the item that a part gives; an inclusion gives one only if its file is missing
abbrev pub item_kind : PartKind → ItemKind
item_kind parts.Constants = items.Constants
item_kind parts.Variables = items.Variables
item_kind parts.Disjoint = items.Disjoint
item_kind parts.Floating = items.Floating
item_kind parts.Essential = items.Essential
item_kind parts.Axiom = items.Axiom
item_kind parts.Theorem = items.Theorem
item_kind parts.BlockStart = items.BlockStart
item_kind parts.BlockEnd = items.BlockEnd
item_kind parts.Inclusion = items.Missing

-- the item that a part gives, if it gives one: its kind, its piece, and its bytes in the piece
abbrev pub placed_item : Placed → Item
placed_item placed = record {
  kind = item_kind placed.part.kind;
  file = placed.file;
  piece = placed.piece;
  key = placed.key;
  start = placed.part.start;
  end = placed.part.end;
}

-- the part is an inclusion
abbrev pub IsInclusion : Placed → Type 0
IsInclusion placed = placed.part.kind ≡ parts.Inclusion

-- a part of the piece at this place
abbrev pub placed_part : ℕ → ℕ → PieceKey → Named → Placed
placed_part file piece key named = record { file = file; piece = piece; key = key; name = named.name; part = named.part }

-- these are the parts of a piece: those of the units that its words are
pub record ArePartsOf (file number : ℕ) (piece : PieceView) (placed : List Placed) : Type 0 where
  pub words : List Word
  pub units : Units
  pub has_words : HasWords piece.text words
  pub are_units : AreUnits true units
  pub spells : unit_tokens units ≡ tokens_of piece.text words
  pub parts : placed ≡ map (placed_part file number piece.key) (named_parts units)

-- these are the parts of the pieces of a file, one after another; the first piece has this number
abbrev pub ArePlaced : ℕ → ℕ → List PieceView → List Placed → Type 0
ArePlaced file number [] placed = placed ≡ []
ArePlaced file number (piece ∷ pieces) placed =
    (first : List Placed) × (rest : List Placed) × ArePartsOf file number piece first × ArePlaced file (number + 1) pieces rest × (placed ≡ first ++ rest)

-- what parts give, read in order after the set of names that are included so far: a list of items, and the set of names after them
pub data Expands (files : List FileView) : List Placed → List (List ℕ) → List Item → List (List ℕ) → Type 0 where
  nothing : {names : List (List ℕ)} → Expands files [] names [] names
  -- a statement, or a beginning or an end of a block, is an item
  own : {part : Placed} {parts : List Placed} {names after : List (List ℕ)} {items : List Item}
      → ¬ IsInclusion part → Expands files parts names items after
      → Expands files (part ∷ parts) names (placed_item part ∷ items) after
  -- a name is included once
  again : {part : Placed} {parts : List Placed} {names after : List (List ℕ)} {items : List Item}
      → IsInclusion part → Contains names part.name → Expands files parts names items after
      → Expands files (part ∷ parts) names items after
  -- the first inclusion of a name that no file has is an item
  missing : {part : Placed} {parts : List Placed} {names after : List (List ℕ)} {items : List Item}
      → IsInclusion part → ¬ Contains names part.name → number_of files part.name ≡ None → Expands files parts (names ++ part.name ∷ []) items after
      → Expands files (part ∷ parts) names (placed_item part ∷ items) after
  -- the first inclusion of a file gives what the parts of that file give
  included : {part : Placed} {parts inner : List Placed} {names between after : List (List ℕ)} {gained items : List Item} {number : ℕ} {file : FileView}
      → IsInclusion part → ¬ Contains names part.name → number_of files part.name ≡ Some number → slice_get files number ≡ Some file
      → ArePlaced number 0 file.pieces inner → Expands files inner (names ++ part.name ∷ []) gained between → Expands files parts between items after
      → Expands files (part ∷ parts) names (gained ++ items) after

-- the items of the files from the top file on. Its name counts as included from the beginning; in this way a ring of inclusions ends
pub record IsExpansion (files : List FileView) (top : List ℕ) (items : List Item) : Type 0 where
  pub number : ℕ
  pub file : FileView
  pub is_top : number_of files top ≡ Some number
  pub there : slice_get files number ≡ Some file
  pub parts : List Placed
  pub placed : ArePlaced number 0 file.pieces parts
  pub after : List (List ℕ)
  pub expands : Expands files parts (top ∷ []) items after
