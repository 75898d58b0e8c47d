use Rattle.std.proofs.{Common.{arith, sym, append-nil}, lemmas.Grind.{common_steps}}
use Rattle.mm_store.proofs.lemmas.files.{SlabLemmas.{text_is}, StoreLemmas.{none_text}}
use Rattle.mm_store.proofs.pieces.PieceStore.next_start.Goals as goal

pub behind-requires-clause-kept : goal.behind-requires-clause-kept
behind-requires-clause-kept c = c.self.invariant.kept c.args.key c.in-Some.piece.now (sym c.in-Some.ensures)

pub behind-requires-clause-small : goal.behind-requires-clause-small
behind-requires-clause-small c = grind (arith, common_steps, text_is c.self.inside.slab c.args.key c.args.self.now c.in-Some.piece.now c.self.view_is (sym c.in-Some.ensures)) steps 200000

pub returns-in-None : goal.returns-in-None
returns-in-None c = grind (arith, common_steps, none_text c.self.inside.slab c.args.key c.args.self.now c.self.view_is c.in-None.ensures, append-nil) steps 200000

pub returns-in-Some : goal.returns-in-Some
returns-in-Some c = grind (arith, common_steps, text_is c.self.inside.slab c.args.key c.args.self.now c.in-Some.piece.now c.self.view_is (sym c.in-Some.ensures), c.behind.ensures) steps 200000
