use Rattle.std.{proofs.Common.{ℕ, List, Vec, sym, subst}, specs.Global.{Global}}
use Rattle.mm_text.{specs.Language.Cut.{ArePieces}, proofs.PartLemmas.{each_units}}
use Rattle.mm_text.proofs.cutting.cut.Goals as goal

-- the bytes of a piece
abbrev bytes_of : Vec ℕ Global → List ℕ
bytes_of piece = piece.items

pub returns-clause-units : goal.returns-clause-units
returns-clause-units c =
    let tail = c.in_ok-pieces.field-0.tail.items in
    each_units bytes_of c.in_ok-pieces-2.pieces.items tail (subst (λ (pieces : List (List ℕ)). ArePieces pieces tail) (sym c.in_ok-pieces-2.ensures) c.in_ok-pieces.ensures.cut.are_pieces)
