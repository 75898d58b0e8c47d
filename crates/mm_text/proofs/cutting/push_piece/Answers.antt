use Rattle.std.proofs.{Common.{[], ◌∷◌, All, sym, ◌∙◌, subst}, lemmas.List.Elements.{All-nil, All-cons, All-append}}
use Rattle.mm_text.specs.{declared.pieces.DividedPiece.{DividedPiece}, Language.Part.{HasOwnParts}}
use Rattle.mm_text.proofs.cutting.push_piece.Goals as goal

pub returns-clause-parts : goal.returns-clause-parts
returns-clause-parts c = λ each has.
    (let piece : DividedPiece = record { text = c.in_ok-text.text; parts = c.in_ok-parts.parts } in
    let divided : HasOwnParts piece = λ units h. c.in_ok-parts.ensures.parts ∙ has units (rw c.in_ok-text.ensures at h) in
    subst (All HasOwnParts) (sym c.in_ok-push.ensures.items) (All-append HasOwnParts c.args.pieces.now.items (piece ∷ []) each (All-cons HasOwnParts piece [] divided (All-nil HasOwnParts))))
