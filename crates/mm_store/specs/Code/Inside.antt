-- What is kept of the text of a piece, and how pieces are put.
use Rattle.std.specs.Prelude.{◌≡◌, ℕ, ◌≤◌, List, [], ◌∷◌, None, length}
use Rattle.std.specs.FinMap as finite
use Rattle.mm_text.specs.Language.Cut.{HoldsOneUnit}
use Rattle.mm_text.specs.Language.Part.{HasParts}
use Rattle.mm_store.specs.declared.piece_text.PieceText.{PieceText}
use Rattle.mm_store.specs.Language.Pieces.{Pieces, standing_piece}
use Rattle.mm_store.specs.Code.Lines.{AreLines, AreLineMarks}

-- a text holds one unit, and has no more bytes than files may have
pub record CanBeKept (text : List ℕ) : Type 0 where
  pub unit : HoldsOneUnit text
  pub small : length text ≤ 4294967295

-- the text of a piece is kept with its parts, its marks and its lines
pub record IsPieceKept (piece : PieceText) : Type 0 where
  pub text : CanBeKept piece.text
  pub divided : HasParts piece.text piece.parts.items
  pub marked : AreLineMarks piece.text piece.marks.items
  pub lined : AreLines piece.text piece.lines

-- pieces of files, with these texts, were put in one after another, each under a key that no piece had
abbrev pub ArePut : Pieces → List (List ℕ) → List ℕ → Pieces → Type 0
ArePut old [] keys new = (keys ≡ []) × (new ≡ old)
ArePut old (text ∷ texts) keys new =
    (key : ℕ) × (rest : List ℕ) × (keys ≡ key ∷ rest) × (finite.get old key ≡ None)
    × ArePut (finite.insert old key (standing_piece text)) texts rest new
