use Rattle.std.proofs.{lemmas.Grind.{common_steps}, Common.{sym, arith}}
use Rattle.mm_store.proofs.lemmas.files.{SlabLemmas.{text_is}, StoreLemmas.{none_text}}
use Rattle.mm_store.proofs.pieces.PieceStore.lines_before.Goals as goal

pub lines_before-requires : goal.lines_before-requires
lines_before-requires c =
    grind (arith, c.self.invariant.kept c.args.key c.in-Some.piece.now (sym c.in-Some.ensures), text_is c.self.inside.slab c.args.key c.args.self.now c.in-Some.piece.now c.self.view_is (sym c.in-Some.ensures)) steps 200000

pub returns-in-None : goal.returns-in-None
returns-in-None c = grind (arith, common_steps, none_text c.self.inside.slab c.args.key c.args.self.now c.self.view_is c.in-None.ensures) steps 200000

pub returns-in-Some : goal.returns-in-Some
returns-in-Some c = grind (arith, common_steps, text_is c.self.inside.slab c.args.key c.args.self.now c.in-Some.piece.now c.self.view_is (sym c.in-Some.ensures)) steps 200000
