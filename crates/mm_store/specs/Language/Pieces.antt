-- The pieces that are held, each under its key: those that are in a file, and those that are parked until their edit is undone or settled.
use Rattle.std.specs.Prelude.{◌≡◌, ℕ, List, [], Option, Some, None}
use Rattle.std.specs.Ordering.{nat_cmp}
use Rattle.std.specs.List.{sum_by}
use Rattle.std.specs.FinMap as finite

-- how an edit took a piece out of its file: another took its place, or none did
pub data Removal : Type 0 where
  Replaced : Removal
  Deleted : Removal

-- a piece is in a file; or it is parked, so that the edit which took it out of the file with this number, in this way, can be undone
pub data PieceState : Type 0 where
  Standing : PieceState
  Parked : ℕ → Removal → PieceState

-- a piece that is held: its text, and whether it is in a file or parked
pub record HeldPiece : Type 0 where
  pub text : List ℕ
  pub state : PieceState

-- the pieces, each under its key
abbrev pub Pieces : Type 0
Pieces = finite.FinMap nat_cmp HeldPiece

-- a piece of this text that is in a file
abbrev pub standing_piece : List ℕ → HeldPiece
standing_piece text = record { text = text; state = Standing }

-- the piece with its text, in another state
abbrev pub in_state : Option HeldPiece → PieceState → HeldPiece
in_state None state = record { text = []; state = state }
in_state (Some piece) state = record { text = piece.text; state = state }

-- the pieces after the state of one has changed
abbrev pub with_state : Pieces → ℕ → PieceState → Pieces
with_state pieces key state = finite.insert pieces key (in_state (finite.get pieces key) state)

-- the text of a piece, if there is one; else no bytes
abbrev pub text_in : Option HeldPiece → List ℕ
text_in None = []
text_in (Some piece) = piece.text

-- the text of the piece under a key; no bytes if there is none
abbrev pub text_under : Pieces → ℕ → List ℕ
text_under pieces key = text_in (finite.get pieces key)

-- the state of a piece, if there is one
abbrev pub state_in : Option HeldPiece → Option PieceState
state_in None = None
state_in (Some piece) = Some piece.state

-- the piece under the key is parked: an edit took it out of the file of this number, in this way
abbrev pub IsParked : Pieces → ℕ → ℕ → Removal → Type 0
IsParked pieces key file removal = state_in (finite.get pieces key) ≡ Some (Parked file removal)

-- 1 for a parked piece, 0 for one in a file
abbrev pub parked_state : PieceState → ℕ
parked_state Standing = 0
parked_state (Parked file removal) = 1

-- 1 for a piece that is parked, and else 0
abbrev pub parked_count : Option HeldPiece → ℕ
parked_count None = 0
parked_count (Some piece) = parked_state piece.state

-- 1 if the piece under a key is parked, and else 0
abbrev pub parked_under : Pieces → ℕ → ℕ
parked_under pieces key = parked_count (finite.get pieces key)

-- how many pieces are parked
abbrev pub parked_pieces : Pieces → ℕ
parked_pieces pieces = sum_by (λ entry. parked_state entry.1.state) (finite.entries pieces)
