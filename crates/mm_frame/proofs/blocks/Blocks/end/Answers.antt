use Rattle.std.proofs.{lemmas.{List.Sums.{count_by-le-length}, Grind.{common_steps}}, Common.{◌≡◌, ◌++◌, ◌∷◌, [], length, refl, ◌∙◌, ap, arith, unwrap_or}}
use Rattle.mm_frame.{proofs.lemmas.scope.BlockLemmas.{length_marks, popped_is, closing, kept_moved, kept_entered, kept_ended, entered_marks, ended_marks, pushed}, specs.Language.Marks.{Closes}}
use Rattle.mm_frame.specs.Code.KeptBlocks.{marks_from}
use Rattle.mm_frame.proofs.blocks.Blocks.end.Goals as goal

pub invariant_of-self-in_err-reserve : goal.invariant_of-self-in_err-reserve
invariant_of-self-in_err-reserve c =
    let i = c.self.inside in
    kept_moved i.block_of.items c.reserve.new.self.items _ c.enter.new.ends.items i.outer.items i.outer.items i.current i.begun i.ended c.reserve.ensures.items refl refl
    (kept_entered i.block_of.items i.ends.items c.enter.new.ends.items i.outer.items i.current i.begun i.ended c.enter.ensures.same c.enter.ensures.longer c.self.invariant)

pub overflow_add-self : goal.overflow_add-self
overflow_add-self c = grind (arith, common_steps, count_by-le-length, length_marks) steps 200000

pub invariant_of-self-2 : goal.invariant_of-self-2
invariant_of-self-2 c =
    let i = c.self.inside in
    let ends = c.enter.new.ends in
    let outer = i.outer in
    let next = c.unwrap_or-self-inside.ensures ∙ ap (unwrap_or c.pop.result) (omega (arith, c.len-2.ensures, ends.ok.0)) in
    let popped = popped_is outer.items c.pop.new.self.items c.unwrap_or-self-inside.result (length ends.items) c.pop.result c.pop.ensures.items (λ l. c.pop.ensures.variant.1 (omega (arith, outer.ok.0, l))) next in
    let kept = kept_entered i.block_of.items i.ends.items ends.items outer.items i.current i.begun i.ended c.enter.ensures.same c.enter.ensures.longer c.self.invariant in
    let item : c.len.result ≡ length i.block_of.items = omega (arith, c.len.ensures, c.reserve.ensures.len, i.block_of.ok.0) in
    let block_of = pushed c.push.result c.unwrap.result c.push.new.self.items (c.reserve.new.self.items ++ c.unwrap_or-self-inside.result ∷ [])
    c.reserve.new.self.items c.unwrap.ensures c.push.ensures.items ∙ ap (λ w. w ++ c.unwrap_or-self-inside.result ∷ []) c.reserve.ensures.items in
    kept_moved _ c.push.new.self.items _ _ c.pop.new.self.items c.pop.new.self.items c.unwrap_or-self-inside.result i.begun _ block_of (ap (closing ends.items i.current) item) refl
    (kept_ended i.block_of.items ends.items outer.items c.pop.new.self.items i.current c.unwrap_or-self-inside.result i.begun i.ended c.in_ok-enter.ensures.ok popped kept)

pub returns-clause-ok : goal.returns-clause-ok
returns-clause-ok c =
    let i = c.self.inside in
    let ends = c.enter.new.ends in
    let outer = i.outer in
    let next = c.unwrap_or-self-inside.ensures ∙ ap (unwrap_or c.pop.result) (omega (arith, c.len-2.ensures, ends.ok.0)) in
    let popped = popped_is outer.items c.pop.new.self.items c.unwrap_or-self-inside.result (length ends.items) c.pop.result c.pop.ensures.items (λ l. c.pop.ensures.variant.1 (omega (arith, outer.ok.0, l))) next in
    let kept = kept_entered i.block_of.items i.ends.items ends.items outer.items i.current i.begun i.ended c.enter.ensures.same c.enter.ensures.longer c.self.invariant in
    let item : c.len.result ≡ length i.block_of.items = omega (arith, c.len.ensures, c.reserve.ensures.len, i.block_of.ok.0) in
    let block_of = pushed c.push.result c.unwrap.result c.push.new.self.items (c.reserve.new.self.items ++ c.unwrap_or-self-inside.result ∷ [])
    c.reserve.new.self.items c.unwrap.ensures c.push.ensures.items ∙ ap (λ w. w ++ c.unwrap_or-self-inside.result ∷ []) c.reserve.ensures.items in
    ap (λ w. marks_from w 0 0 c.push.new.self.items) (ap (closing ends.items i.current) item) ∙ ap (marks_from (closing ends.items i.current (length i.block_of.items)) 0 0) block_of
    ∙ ended_marks i.block_of.items ends.items outer.items c.pop.new.self.items i.current c.unwrap_or-self-inside.result (marks_from ends.items 0 0 i.block_of.items) c.in_ok-enter.ensures.ok popped kept.are_blocks
    ∙ ap (λ marks. marks ++ Closes ∷ []) (entered_marks i.ends.items ends.items i.block_of.items c.enter.ensures.same ∙ c.self.view_is)
