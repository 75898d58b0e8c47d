use Rattle.std.proofs.{Common.{◌≡◌, [], ◌∷◌, ◌++◌, All, length, drop, sym, ap, ◌∙◌, subst, append_assoc, arith}, Math.Seq.{drop-append_seam}, lemmas.List.{map-append}}
use Rattle.std.{proofs.lemmas.{List.Elements.{All-nil, All-cons, All-append, All-drop}, Grind.{common_steps}}, specs.Vec.Iter.{into_iter_items}}
use Rattle.mm_text.specs.{declared.pieces.DividedPiece.{DividedPiece}, Language.Part.{HasOwnParts}}
use Rattle.mm_store.specs.{declared.piece_text.PieceText.{PieceText}, Code.Inside.{IsPieceKept}}
use Rattle.mm_store.proofs.piece_text.kept_pieces.Goals as goal

pub kept_piece-requires-clause-parts : goal.kept_piece-requires-clause-parts
kept_piece-requires-clause-parts c =
    let at = c.loop-piece in
    let piece : DividedPiece = c.in-Some.piece in
    let rest = into_iter_items c.next.new.self in
    let joined : at.yielded ++ piece ∷ rest ≡ c.args.pieces.items = rw c.in-Some.ensures.steps.0 at at.invariant.rest in
    let left : All HasOwnParts (piece ∷ rest) =
    subst (All HasOwnParts) (ap (drop (length at.yielded)) (sym joined) ∙ drop-append_seam at.yielded (piece ∷ rest)) (All-drop HasOwnParts (length at.yielded) c.args.pieces.items c.requires.parts) in
    left 0 piece (omega arith)

pub loop-piece-preserved : goal.loop-piece-preserved
loop-piece-preserved c =
    let at = c.loop-piece in
    let piece : DividedPiece = c.in-Some.piece in
    let kept : PieceText = c.in_ok-kept_piece.field-0 in
    let pushed = c.in_ok-push.ensures.items in
    record {
      rest = append_assoc at.yielded (piece ∷ []) _ ∙ rw (← c.in-Some.ensures.steps.0) at.invariant.rest;
      many = grind (arith, common_steps) steps 200000;
      texts = grind (arith, common_steps, map-append) steps 200000;
      each = subst (All IsPieceKept) (sym pushed) (All-append IsPieceKept at.kept.items (kept ∷ []) at.invariant.each (All-cons IsPieceKept kept [] c.in_ok-kept_piece.ensures.kept (All-nil IsPieceKept)));
    }
