use Rattle.std.proofs.{Common.{arith, refl}, lemmas.Grind.{common_steps}}
use Rattle.mm_frame.{specs.Code.KeptBlocks.{marks_from}, proofs.lemmas.scope.BlockLemmas.{kept_moved, kept_passed, passed_marks}}
use Rattle.mm_frame.proofs.blocks.Blocks.pass.Goals as goal

pub invariant_of-self-2 : goal.invariant_of-self-2
invariant_of-self-2 c =
    let i = c.self.inside in
    kept_moved _ c.push.new.self.items i.ends.items i.ends.items i.outer.items i.outer.items i.current i.begun i.ended c.in_ok-push.ensures.items refl refl
    (kept_passed i.block_of.items i.ends.items i.outer.items i.current i.begun i.ended c.self.invariant)

pub returns-clause-ok : goal.returns-clause-ok
returns-clause-ok c =
    let i = c.self.inside in
    grind (arith, common_steps, passed_marks i.block_of.items i.ends.items i.outer.items i.current (marks_from i.ends.items 0 0 i.block_of.items) c.self.invariant.are_blocks) steps 200000
