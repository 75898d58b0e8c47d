-- The parts of a text whose words are whole units, in order: statements, inclusions, and the ends of blocks.
use Rattle.std.specs.Prelude.{◌≡◌, ℕ, ◌+◌, ◌<◌, ◌≤◌, true, List, [], ◌∷◌, ◌++◌, length, slice_range}
use Rattle.mm_text.specs.declared.part.Part.{Part}
use Rattle.mm_text.specs.declared.pieces.DividedPiece.{DividedPiece}
use Rattle.mm_text.specs.declared.part.PartKind.{PartKind}
use Rattle.mm_text.specs.declared.part.PartKind.TheVariants as parts
use Rattle.mm_text.specs.declared.word.Word.{Word}
use Rattle.mm_text.specs.declared.word.Keyword.{Keyword}
use Rattle.mm_text.specs.declared.word.Keyword.TheVariants.{BlockStart, BlockEnd, Constants, Variables, Disjoint, Floating, Essential, Axiom, Theorem}
use Rattle.mm_text.specs.declared.word.Keyword.TheVariants.{InclusionStart}
use Rattle.mm_text.specs.declared.word.WordKind.{WordKind}
use Rattle.mm_text.specs.declared.word.WordKind.TheVariants as kinds
use Rattle.mm_text.specs.Language.Reading.{HasWords}
use Rattle.mm_text.specs.Language.Unit.{Token, tokens_of, Shape, Declaration, Labelled, Provable, Inclusion, Units, Nothing, Simple, Block, AreUnits}
use Rattle.mm_text.specs.Language.Unit.{unit_tokens}

-- the words of the text are these units
pub record HasUnits (text : List ℕ) (units : Units) : Type 0 where
  pub words : List Word
  pub has_words : HasWords text words
  pub are_units : AreUnits true units
  pub spells : unit_tokens units ≡ tokens_of text words

-- the place of the byte after a word
abbrev pub token_end : Token → ℕ
token_end token = token.start + length token.bytes

-- a part of this kind, from the first byte of one word to the last byte of another: its end is the byte after that
abbrev pub part : PartKind → Token → Token → Part
part kind first last = record { kind = kind; start = first.start; end = token_end last }

-- the kind of a part by a keyword in it; a keyword that makes no statement leaves it as it was
abbrev pub keyword_part : PartKind → Keyword → PartKind
keyword_part kind Constants = parts.Constants
keyword_part kind Variables = parts.Variables
keyword_part kind Disjoint = parts.Disjoint
keyword_part kind Floating = parts.Floating
keyword_part kind Essential = parts.Essential
keyword_part kind Axiom = parts.Axiom
keyword_part kind Theorem = parts.Theorem
keyword_part kind BlockStart = parts.BlockStart
keyword_part kind BlockEnd = parts.BlockEnd
keyword_part kind InclusionStart = parts.Inclusion
keyword_part kind _ = kind

-- the kind of a part by a word in it; a plain word leaves it as it was
abbrev pub word_part : PartKind → WordKind → PartKind
word_part kind kinds.Plain = kind
word_part kind (kinds.Keyword keyword) = keyword_part kind keyword

-- a statement or an inclusion as a part of its text: from its first word to its last, of the kind that its keyword says
abbrev pub shape_part : Shape → Part
shape_part (Declaration keyword symbols end) = part (word_part parts.Constants keyword.kind) keyword end
shape_part (Labelled label keyword symbols end) = part (word_part parts.Axiom keyword.kind) label end
shape_part (Provable label keyword symbols proof steps end) = part parts.Theorem label end
shape_part (Inclusion begin name end) = part parts.Inclusion begin end

-- the parts of units: each statement and inclusion, each `${` and each `$}`
abbrev pub parts_of : Units → List Part
parts_of Nothing = []
parts_of (Simple shape later) = shape_part shape ∷ parts_of later
parts_of (Block begin inner end later) = part parts.BlockStart begin begin ∷ (parts_of inner ++ part parts.BlockEnd end end ∷ parts_of later)

-- these are the parts of a text: those of the units that its words are
abbrev pub HasParts : List ℕ → List Part → Type 0
HasParts text parts = (units : Units) → HasUnits text units → parts ≡ parts_of units

-- the parts of the piece are those of its text
abbrev pub HasOwnParts : DividedPiece → Type 0
HasOwnParts piece = HasParts piece.text piece.parts.items

-- the bytes of a part of a text
abbrev pub part_bytes : List ℕ → Part → List ℕ
part_bytes text part = slice_range text part.start part.end

-- a part has at least one byte, is in the text, and is by itself a text with at least one word
pub record IsReadable (text : List ℕ) (part : Part) : Type 0 where
  pub some : part.start < part.end
  pub within : part.end ≤ length text
  pub words : List Word
  pub has_words : HasWords (part_bytes text part) words
  pub some_word : 0 < length words
