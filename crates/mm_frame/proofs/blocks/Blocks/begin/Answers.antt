use Rattle.std.proofs.{lemmas.{List.Sums.{count_by-le-length}, Grind.{common_steps}}, Common.{subst, sym, ◌+◌, ◌≡◌, ◌++◌, ◌∷◌, [], length, refl, ◌∙◌, ap, arith}}
use Rattle.mm_frame.{proofs.lemmas.scope.BlockLemmas.{begun, length_marks, same_count, kept_moved, kept_entered, entered_marks, begun_marks, pushed}, specs.Code.KeptBlocks.{AreBlocks, marks_from}}
use Rattle.mm_frame.specs.{Code.BlockMarks.{closes, opens}, Language.Marks.{Opens}}
use Rattle.mm_frame.proofs.blocks.Blocks.begin.Goals as goal

pub invariant_of-self-in_err-reserve : goal.invariant_of-self-in_err-reserve
invariant_of-self-in_err-reserve c =
    let i = c.self.inside in
    kept_moved i.block_of.items i.block_of.items _ c.enter.new.ends.items i.outer.items c.reserve.new.self.items i.current i.begun i.ended refl refl c.reserve.ensures.items
    (kept_entered i.block_of.items i.ends.items c.enter.new.ends.items i.outer.items i.current i.begun i.ended c.enter.ensures.same c.enter.ensures.longer c.self.invariant)

pub invariant_of-self-in_err-push : goal.invariant_of-self-in_err-push
invariant_of-self-in_err-push c =
    let i = c.self.inside in
    kept_moved i.block_of.items c.push.new.self.items _ c.enter.new.ends.items i.outer.items c.reserve.new.self.items i.current i.begun i.ended c.in_err-push.ensures.items refl c.reserve.ensures.items
    (kept_entered i.block_of.items i.ends.items c.enter.new.ends.items i.outer.items i.current i.begun i.ended c.enter.ensures.same c.enter.ensures.longer c.self.invariant)

pub overflow_add-self : goal.overflow_add-self
overflow_add-self c = grind (arith, common_steps, count_by-le-length, length_marks) steps 200000

pub invariant_of-self-2 : goal.invariant_of-self-2
invariant_of-self-2 c =
    let i = c.self.inside in
    let ends = c.enter.new.ends in
    let next : c.len-block.result ≡ length ends.items = omega (arith, c.len-block.ensures, ends.ok.0) in
    let kept = kept_entered i.block_of.items i.ends.items ends.items i.outer.items i.current i.begun i.ended c.enter.ensures.same c.enter.ensures.longer c.self.invariant in
    let outer =
    pushed c.push-2.result c.unwrap.result c.push-2.new.self.items (c.reserve.new.self.items ++ i.current ∷ []) c.reserve.new.self.items c.unwrap.ensures c.push-2.ensures.items ∙ ap (λ w. w ++ i.current ∷ []) c.reserve.ensures.items in
    kept_moved _ c.push.new.self.items _ ends.items _ c.push-2.new.self.items c.len-block.result _ i.ended c.in_ok-push.ensures.items refl outer
    (let marks = marks_from ends.items 0 0 i.block_of.items in
    let more = begun_marks i.block_of.items ends.items i.outer.items i.current c.len-block.result marks c.in_ok-enter.ensures.ok next kept.are_blocks in
    record {
      are_blocks = subst
          (λ w. AreBlocks (i.block_of.items ++ c.len-block.result ∷ []) ends.items (i.outer.items ++ i.current ∷ []) c.len-block.result w) (sym more)
          (begun i.block_of.items ends.items i.outer.items i.current c.len-block.result marks
          (length_marks ends.items 0 0 i.block_of.items) c.in_ok-enter.ensures.ok next kept.are_blocks);
      begun_is = same_count opens marks _ Opens i.begun
          (i.begun + 1) more kept.begun_is refl;
      ended_is = same_count closes marks _ Opens i.ended i.ended more kept.ended_is (omega arith);
    })

pub returns-clause-ok : goal.returns-clause-ok
returns-clause-ok c =
    let i = c.self.inside in
    let ends = c.enter.new.ends in
    let next : c.len-block.result ≡ length ends.items = omega (arith, c.len-block.ensures, ends.ok.0) in
    let kept = kept_entered i.block_of.items i.ends.items ends.items i.outer.items i.current i.begun i.ended c.enter.ensures.same c.enter.ensures.longer c.self.invariant in
    ap (marks_from ends.items 0 0) c.in_ok-push.ensures.items ∙ begun_marks i.block_of.items ends.items i.outer.items i.current c.len-block.result (marks_from ends.items 0 0 i.block_of.items) c.in_ok-enter.ensures.ok next kept.are_blocks
    ∙ ap (λ marks. marks ++ Opens ∷ []) (entered_marks i.ends.items ends.items i.block_of.items c.enter.ensures.same ∙ c.self.view_is)
