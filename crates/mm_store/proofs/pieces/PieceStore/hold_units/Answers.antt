use Rattle.std.proofs.{Common.{◌≡◌, Option, Some, None, is_some, true, refl, sym, subst}, lemmas.Bool.{false≢true}}
use Rattle.slab.specs.Slab.{get}
use Rattle.mm_text.specs.Language.Cut.{HoldsOneUnit}
use Rattle.mm_store.{specs.declared.pieces.Piece.{Piece}, proofs.lemmas.files.SlabLemmas.{some_slot, text_is}}
use Rattle.mm_store.proofs.pieces.PieceStore.hold_units.Goals as goal

some_piece : (o : Option Piece) → is_some o ≡ true → (piece : Piece) × (o ≡ Some piece)
some_piece None e = absurd (false≢true e)
some_piece (Some piece) e = (piece, refl)

pub returns : goal.returns
returns c key held =
    let slab = c.self.inside.slab in
    let there = some_piece (get slab key) (some_slot slab key c.args.self.now c.self.view_is held) in
    subst HoldsOneUnit (sym (text_is slab key c.args.self.now there.0 c.self.view_is there.1)) (c.self.invariant.kept key there.0 there.1).text.unit
