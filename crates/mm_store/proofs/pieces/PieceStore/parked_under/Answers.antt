use Rattle.std.{proofs.Common.{sym, ap, ◌∙◌}, specs.Option.{option_map}}
use Rattle.mm_store.{specs.{Language.Pieces.{parked_count}, Code.Slots.{held}}, proofs.lemmas.files.StoreLemmas.{at_is, parked_there}}
use Rattle.mm_store.proofs.pieces.PieceStore.parked_under.Goals as goal

pub returns-in-None : goal.returns-in-None
returns-in-None c = sym (ap parked_count (at_is c.self.inside.slab c.args.key c.args.self.now c.self.view_is ∙ ap (option_map held) (sym c.in-None.ensures)))

pub returns-in-Some : goal.returns-in-Some
returns-in-Some c = c.count_parked.ensures.is ∙ sym (parked_there c.self.inside.slab c.args.key c.args.self.now c.in-Some.piece.now c.self.view_is (sym c.in-Some.ensures))
