use Rattle.std.proofs.{Common.{arith, ℕ, List, All, sym, subst}, lemmas.{Grind.{common_steps}, List.{take_rest}, Result.{err_from_is_err_and}}}
use Rattle.mm_text.{specs.{declared.pieces.DividedPiece.{DividedPiece}, Language.Part.{IsReadable}}, proofs.{PartLemmas.{each_units}, PartWalkLemmas.{parts_read}, PositionLemmas.{cut_error_lies}}}
use Rattle.mm_text.proofs.cutting.divided_cut.Goals as goal

-- the bytes of a piece
abbrev bytes_of : DividedPiece → List ℕ
bytes_of piece = piece.text

pub returns-in_err-from-clause-fault : goal.returns-in_err-from-clause-fault
returns-in_err-from-clause-fault c = let p = err_from_is_err_and c.from_residual.result c.from_residual.ensures.1 in rw (p.1, p.2) (rw c.as_slice-bytes.ensures at c.in_err-from.ensures.fault)

pub returns-in_err-from-clause-fault_within : goal.returns-in_err-from-clause-fault_within
returns-in_err-from-clause-fault_within c = cut_error_lies c.args.text.now c.from_residual.result (returns-in_err-from-clause-fault c)

pub returns-clause-cut : goal.returns-clause-cut
returns-clause-cut c = grind (arith, common_steps, take_rest c.as_slice-bytes.result.now c.in_ok-from.from) steps 200000

pub returns-clause-units : goal.returns-clause-units
returns-clause-units c = each_units bytes_of c.cut_units.new.pieces.items c.in_ok-tail.tail.items (returns-clause-cut c).are_pieces

pub returns-clause-readable : goal.returns-clause-readable
returns-clause-readable c = λ k d lt.
    (let units = returns-clause-units c k d lt in subst (All (IsReadable _)) (sym (c.in_ok-from.ensures.parts k d lt units.0 units.1)) (parts_read _ units.0 units.1))
