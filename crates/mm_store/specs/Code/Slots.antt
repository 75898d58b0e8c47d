-- From the fields of `PieceStore` to the map of the pieces.
use Rattle.std.specs.Prelude.{◌≡◌, ℕ, List, [], ◌∷◌, Some, None, map}
use Rattle.std.specs.FinMap as finite
use Rattle.slab.specs.Slab.{Slab, get, entries, Updates}
use Rattle.mm_store.specs.declared.state.State.TheVariants.{Standing}
use Rattle.mm_store.specs.declared.piece_text.PieceText.{PieceText}
use Rattle.mm_store.specs.declared.pieces.Piece.{Piece}
use Rattle.mm_store.specs.declared.pieces.PieceStore.TheInside.{Inside}
use Rattle.mm_store.specs.Language.Pieces.{HeldPiece, Pieces, parked_pieces}
use Rattle.mm_store.specs.Code.Inside.{IsPieceKept}
use Rattle.mm_store.specs.Code.States.{piece_state}

abbrev pub held : Piece → HeldPiece
held piece = record { text = piece.kept.text; state = piece_state piece.state }

abbrev pub entry_view : ℕ × Piece → ℕ × HeldPiece
entry_view entry = (entry.0, held entry.1)

abbrev pub pieces_of : Slab Piece → Pieces
pieces_of slab = finite.from_entries (map entry_view (entries slab))

abbrev pub pieces_view : Inside → Pieces
pieces_view inside = pieces_of inside.slab

abbrev pub AreKeptIn : Slab Piece → Type 0
AreKeptIn slab = (key : ℕ) (piece : Piece) → get slab key ≡ Some piece → IsPieceKept piece.kept

-- each text is kept with what is found of it, and the parked pieces are counted
pub record ArePiecesKept (inside : Inside) : Type 0 where
  pub kept : AreKeptIn inside.slab
  pub counted : inside.parked ≡ parked_pieces (pieces_view inside)

-- pieces of files were put into the slab, one after another, each under a key that had none
abbrev pub ArePutIn : Slab Piece → List PieceText → List ℕ → Slab Piece → Type 0
ArePutIn old [] keys new = (keys ≡ []) × (new ≡ old)
ArePutIn old (kept ∷ pieces) keys new =
    (key : ℕ) × (rest : List ℕ) × (between : Slab Piece) × (keys ≡ key ∷ rest) × (get old key ≡ None)
    × Updates old between key (Some (record { kept = kept; state = Standing })) × ArePutIn between pieces rest new
