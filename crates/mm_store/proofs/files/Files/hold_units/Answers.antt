use Rattle.std.proofs.Common.{sym, subst, IsSome}
use Rattle.mm_text.specs.Language.Cut.{HoldsOneUnit}
use Rattle.mm_store.{specs.Language.{FilesView.{FilesView}, Pieces.{text_under}}, proofs.lemmas.files.ViewLemmas.{piece_there, held_there}}
use Rattle.std.specs.FinMap as finite
use Rattle.mm_store.proofs.files.Files.hold_units.Goals as goal

pub returns : goal.returns
returns c number file there n piece here =
    let view = c.args.self.now in
    let p = piece_there view number file n piece there here in
    let held = held_there view number n p.file piece.key.at c.holds_pieces.ensures p.there p.is_key in
    let own = subst (λ (view : FilesView). IsSome (finite.get view.pieces piece.key.at)) (sym c.self.view_is) held in
    subst HoldsOneUnit (sym p.text) (subst (λ (view : FilesView). HoldsOneUnit (text_under view.pieces piece.key.at)) c.self.view_is (c.hold_units.ensures piece.key.at own))
