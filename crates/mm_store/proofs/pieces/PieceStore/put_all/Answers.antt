use Rattle.std.proofs.{Common.{arith, map, sym, ap, ◌∙◌, subst}, lemmas.Grind.{common_steps}}
use Rattle.mm_store.specs.{declared.piece_text.PieceText.{PieceText}, Language.Pieces.{parked_pieces}, Code.Slots.{pieces_of, AreKeptIn}}
use Rattle.mm_store.proofs.lemmas.files.StoreLemmas.{are_put, kept_all, parked_all}
use Rattle.mm_store.proofs.pieces.PieceStore.put_all.Goals as goal

pub invariant_of-self : goal.invariant_of-self
invariant_of-self c = record {
  kept = subst AreKeptIn (sym c.reserve.ensures.rest_kept) c.self.invariant.kept;
  counted = c.self.invariant.counted ∙ ap (λ s. parked_pieces (pieces_of s)) (sym c.reserve.ensures.rest_kept);
}

pub invariant_of-self-2 : goal.invariant_of-self-2
invariant_of-self-2 c =
    let put = c.put_each.ensures in
    let texts = map (λ (piece : PieceText). piece.text) c.args.pieces.items in
    record {
      kept = kept_all c.reserve.new.self c.put_each.new.slab c.args.pieces.items put.0 put.2 c.requires (subst AreKeptIn (sym c.reserve.ensures.rest_kept) c.self.invariant.kept);
      counted = grind (arith, common_steps, parked_all (pieces_of c.reserve.new.self) (pieces_of c.put_each.new.slab) texts put.0 (are_put c.reserve.new.self c.put_each.new.slab c.args.pieces.items put.0 put.2)) steps 200000;
    }

pub returns-clause-ok : goal.returns-clause-ok
returns-clause-ok c = grind (arith, common_steps, are_put c.reserve.new.self c.put_each.new.slab c.args.pieces.items c.put_each.ensures.0 c.put_each.ensures.2) steps 200000
