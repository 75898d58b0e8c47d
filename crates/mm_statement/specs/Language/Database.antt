-- What files give, read from their words: each statement, each `${` and `$}`, and the first reference to each missing file, where it
-- stands (the Metamath book, sections 4.1.2 and 4.1.3).
use Rattle.std.specs.Prelude.{◌≡◌, ◌≢◌, ℕ, ◌+◌, Some, None, List, [], ◌∷◌, ◌++◌, Contains, slice_get}
use Rattle.mm_store.specs.mm_text.declared.word.Keyword.TheVariants as keywords
use Rattle.mm_store.specs.mm_text.declared.word.WordKind.{WordKind}
use Rattle.mm_store.specs.mm_text.declared.word.WordKind.TheVariants as words
use Rattle.mm_store.specs.mm_text.Language.Part.{HasUnits}
use Rattle.mm_store.specs.mm_text.Language.Unit.{Token, Shape, Declaration, Labelled, Provable, Inclusion, shape_tokens, Units, Nothing, Simple, Block}
use Rattle.mm_store.specs.Language.FilesView.{File, file_number}
use Rattle.mm_statement.specs.Language.Item.{Kind, Constants, Variables, Disjoint, Floating, Essential, Axiom, Theorem, BlockStart, BlockEnd, Missing, Passed}
use Rattle.mm_statement.specs.Language.Item.{Said}
use Rattle.mm_statement.specs.Language.Statement.{token_names}

-- the kind of a statement by its keyword; other words are the keyword of none
abbrev pub keyword_kind : WordKind → Kind
keyword_kind (words.Keyword keywords.Constants) = Constants
keyword_kind (words.Keyword keywords.Variables) = Variables
keyword_kind (words.Keyword keywords.Disjoint) = Disjoint
keyword_kind (words.Keyword keywords.Floating) = Floating
keyword_kind (words.Keyword keywords.Essential) = Essential
keyword_kind (words.Keyword keywords.Axiom) = Axiom
keyword_kind _ = Passed

-- what a statement says; an inclusion says the name of a file, as its one symbol
abbrev pub said_of : Shape → Said
said_of (Declaration keyword symbols end) = record { kind = keyword_kind keyword.kind; label = None; symbols = token_names symbols; proof = [] }
said_of (Labelled label keyword symbols end) =
    record { kind = keyword_kind keyword.kind; label = Some label.bytes; symbols = token_names symbols; proof = [] }
said_of (Provable label keyword symbols proof steps end) =
    record { kind = Theorem; label = Some label.bytes; symbols = token_names symbols; proof = token_names steps }
said_of (Inclusion begin name end) = record { kind = Missing; label = None; symbols = name.bytes ∷ []; proof = [] }

-- an item where it stands: the numbers of its file and of its piece in the file, its words, each with the byte of the piece at which it
-- begins, and what it says
pub record Located : Type 0 where
  pub file : ℕ
  pub piece : ℕ
  pub words : List Token
  pub said : Said

-- the byte of a piece at which the first of these words begins; 0 if there is none
abbrev pub first_byte : List Token → ℕ
first_byte [] = 0
first_byte (word ∷ words) = word.start

-- the `${` or `$}` of a block
abbrev pub bracket : ℕ → ℕ → Kind → Token → Located
bracket file piece kind token =
    record { file = file; piece = piece; words = token ∷ []; said = record { kind = kind; label = None; symbols = []; proof = [] } }

-- the items of units of a piece, in order: each statement and inclusion, each `${` and each `$}`
abbrev pub unit_items : ℕ → ℕ → Units → List Located
unit_items file piece Nothing = []
unit_items file piece (Simple shape later) =
    record { file = file; piece = piece; words = shape_tokens shape; said = said_of shape } ∷ unit_items file piece later
unit_items file piece (Block begin inner end later) =
    bracket file piece BlockStart begin ∷ (unit_items file piece inner ++ bracket file piece BlockEnd end ∷ unit_items file piece later)

-- these are the items of the pieces of a file, one after another; the first piece has this number
abbrev pub AreLocated : ℕ → ℕ → List (List ℕ) → List Located → Type 0
AreLocated file piece [] items = items ≡ []
AreLocated file piece (text ∷ texts) items =
    (units : Units) × HasUnits text units × (later : List Located) × AreLocated file (piece + 1) texts later
    × (items ≡ unit_items file piece units ++ later)

-- these are the items of the file of this name, inclusions among them
pub record AreOfFile (files : List File) (name : List ℕ) (items : List Located) : Type 0 where
  pub number : ℕ
  pub file : File
  pub is_number : file_number files name ≡ Some number
  pub there : slice_get files number ≡ Some file
  pub located : AreLocated number 0 file.pieces items

-- the item is an inclusion of the file of this name
abbrev pub Refers : Located → List ℕ → Type 0
Refers item name = (item.said.kind ≡ Missing) × (item.said.symbols ≡ name ∷ [])

-- what items give with the contents of files in the place of inclusions, read in order after the set of names that are included so far:
-- a list of items, and the set of names after them
pub data Unfolds (files : List File) : List Located → List (List ℕ) → List Located → List (List ℕ) → Type 0 where
  nothing : {names : List (List ℕ)} → Unfolds files [] names [] names
  -- a statement, a `${` and a `$}` stay as they are
  own : {item : Located} {later items : List Located} {names after : List (List ℕ)}
      → item.said.kind ≢ Missing → Unfolds files later names items after
      → Unfolds files (item ∷ later) names (item ∷ items) after
  -- a name is included once
  again : {item : Located} {name : List ℕ} {later items : List Located} {names after : List (List ℕ)}
      → Refers item name → Contains names name → Unfolds files later names items after
      → Unfolds files (item ∷ later) names items after
  -- the first inclusion of a name that no file has stays as it is
  missing : {item : Located} {name : List ℕ} {later items : List Located} {names after : List (List ℕ)}
      → Refers item name → ¬ Contains names name → file_number files name ≡ None → Unfolds files later (names ++ name ∷ []) items after
      → Unfolds files (item ∷ later) names (item ∷ items) after
  -- the first inclusion of a file gives what the items of that file give
  included : {item : Located} {name : List ℕ} {later inner gained items : List Located} {names between after : List (List ℕ)}
      → Refers item name → ¬ Contains names name → AreOfFile files name inner → Unfolds files inner (names ++ name ∷ []) gained between
      → Unfolds files later between items after
      → Unfolds files (item ∷ later) names (gained ++ items) after

-- the items of the files from the top file on. Its name counts as included from the beginning; in this way a ring of inclusions ends
pub record IsDatabase (files : List File) (top : List ℕ) (items : List Located) : Type 0 where
  pub own : List Located
  pub of_top : AreOfFile files top own
  pub after : List (List ℕ)
  pub unfolds : Unfolds files own (top ∷ []) items after
