use Rattle.std.{proofs.{Common.{arith, ◌≡◌, Option, Bor, is_some, true}, lemmas.Grind.{common_steps}}, specs.Option.{option_copied}}
use Rattle.mm_store.proofs.lemmas.files.{SlabLemmas.{some_slot}, StoreLemmas.{at_is}}
use Rattle.mm_store.proofs.pieces.PieceStore.state.Goals as goal

some_copied : {T : Type 0} (r : Option (Bor T)) → is_some (option_copied r) ≡ true → is_some r ≡ true
some_copied r e = grind (arith, common_steps) steps 200000

pub unwrap-piece-requires : goal.unwrap-piece-requires
unwrap-piece-requires c = grind (arith, common_steps, some_copied, some_slot) steps 200000

pub returns : goal.returns
returns c = grind (arith, common_steps, at_is c.self.inside.slab c.args.key c.args.self.now c.self.view_is) steps 200000
