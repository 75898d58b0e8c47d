use Rattle.std.proofs.{lemmas.Grind.{common_steps}, Common.{◌<◌, ◌+◌, length, sym, ◌∙◌, ap, arith, slice_range}}
use Rattle.mm_frame.{proofs.lemmas.scope.BlockLemmas.{length_marks, is_active_open, is_active_ended}, specs.Code.{BlockMarks.{stays_by}, BlockEnds.{end_of_block}}}
use Rattle.mm_frame.proofs.blocks.Blocks.is_active.Goals as goal

pub index-requires : goal.index-requires
index-requires c = grind (arith, common_steps, ap, length_marks) steps 200000

pub returns-in-None : goal.returns-in-None
returns-in-None c =
    let inside = c.self.inside in
    let block = c.index.result.now in
    let in_range : c.args.from < length inside.block_of.items = omega
    (arith, ap length c.self.view_is, length_marks inside.ends.items 0 0 inside.block_of.items, c.self.view_is, c.requires.within) in
    sym (ap (λ marks. stays_by (slice_range marks (c.args.from + 1) c.args.at)) (sym c.self.view_is) ∙ is_active_open inside.block_of.items
    inside.ends.items inside.outer.items inside.current inside.begun inside.ended c.args.from c.args.at block c.self.invariant in_range c.index.ensures
    (ap (λ ends. end_of_block ends block) (sym c.deref.ensures.value) ∙ sym c.end_of_block.ensures ∙ c.in-None.is))

pub returns-in-Some : goal.returns-in-Some
returns-in-Some c =
    let inside = c.self.inside in
    let block = c.index.result.now in
    let in_range : c.args.from < length inside.block_of.items = omega
    (arith, ap length c.self.view_is, length_marks inside.ends.items 0 0 inside.block_of.items, c.self.view_is, c.requires.within) in
    let ended_block = ap (λ ends. end_of_block ends block) (sym c.deref.ensures.value) ∙ sym c.end_of_block.ensures ∙ c.in-Some.is in
    sym (ap (λ marks. stays_by (slice_range marks (c.args.from + 1) c.args.at)) (sym c.self.view_is)
    ∙ is_active_ended inside.block_of.items inside.ends.items inside.outer.items inside.current inside.begun inside.ended c.args.from c.args.at block c.in-Some.end c.self.invariant c.requires.earlier in_range c.index.ensures ended_block)
