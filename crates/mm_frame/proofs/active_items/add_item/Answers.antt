use Rattle.std.proofs.{Common.{arith, ◌∙◌, sym}, lemmas.{Grind.{common_steps}, Bool.{false≢true}}}
use Rattle.mm_frame.proofs.lemmas.base.BaseLemmas.{numbers_still}
use Rattle.mm_frame.proofs.active_items.add_item.Goals as goal

pub returns-then-not-sound : goal.returns-then-not-sound
returns-then-not-sound c test before said sort k t n m e = e ∙ numbers_still test sort before said c.args.item.sound (λ s. absurd (false≢true (sym c.if-not-sound.true ∙ s)))

pub returns-else-ends_block : goal.returns-else-ends_block
returns-else-ends_block c test before said sort k t n m e = grind (arith, common_steps, numbers_still) steps 200000
