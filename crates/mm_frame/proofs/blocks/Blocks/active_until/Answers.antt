use Rattle.std.proofs.{lemmas.Grind.{common_steps}, Common.{◌≡◌, ◌<◌, ◌+◌, List, suc, true, length, take, drop, arith, sym, ◌∙◌, ap, subst, ◌↔◌, Some, None}}
use Rattle.mm_frame.{proofs.lemmas.scope.{BlockLemmas.{before_none, marks_count}, ActiveUntil.{until_open, until_ended, end_there}}, specs.Language.{Resolving.{IsUpTo}, Marks.{Mark}}}
use Rattle.mm_frame.specs.Code.{BlockMarks.{stays_by}, BlockEnds.{end_of_block}}
use Rattle.mm_frame.proofs.blocks.Blocks.active_until.Goals as goal

pub index-requires : goal.index-requires
index-requires c = let inside = c.self.inside in omega (arith, c.len.ensures, inside.block_of.ok.0, c.if-from-len.false)

pub overflow_add-result : goal.overflow_add-result
overflow_add-result c =
    let inside = c.self.inside in
    let block = c.index.result.now in
    let in_range : c.args.from < length inside.block_of.items = omega (arith, c.len.ensures, inside.block_of.ok.0, c.if-from-len.false) in
    let ended = ap (λ ends. end_of_block ends block) (sym c.deref.ensures.value) ∙ sym c.end_of_block.ensures ∙ c.in-Some.is in
    let there = end_there inside.block_of.items inside.ends.items inside.outer.items inside.current inside.begun inside.ended c.args.from block c.in-Some.end c.self.invariant in_range c.index.ensures ended in
    omega (arith, there, inside.block_of.ok)

pub returns-then-from-len : goal.returns-then-from-len
returns-then-from-len c at l = grind (arith, common_steps, marks_count, before_none) steps 200000

pub returns-in-None : goal.returns-in-None
returns-in-None c at l =
    let inside = c.self.inside in
    let block = c.index.result.now in
    let in_range : c.args.from < length inside.block_of.items = omega (arith, c.len.ensures, inside.block_of.ok.0, c.if-from-len.false) in
    let open_block = ap (λ ends. end_of_block ends block) (sym c.deref.ensures.value) ∙ sym c.end_of_block.ensures ∙ c.in-None.is in
    subst (λ (marks : List Mark). (stays_by (drop (suc c.args.from) (take at marks)) ≡ true) ↔ IsUpTo at None) c.self.view_is
    (until_open inside.block_of.items inside.ends.items inside.outer.items inside.current inside.begun inside.ended c.args.from at block c.self.invariant l in_range c.index.ensures open_block)

pub returns-in-Some : goal.returns-in-Some
returns-in-Some c at l =
    let inside = c.self.inside in
    let block = c.index.result.now in
    let in_range : c.args.from < length inside.block_of.items = omega (arith, c.len.ensures, inside.block_of.ok.0, c.if-from-len.false) in
    let ended = ap (λ ends. end_of_block ends block) (sym c.deref.ensures.value) ∙ sym c.end_of_block.ensures ∙ c.in-Some.is in
    subst (λ (marks : List Mark). (stays_by (drop (suc c.args.from) (take at marks)) ≡ true) ↔ IsUpTo at (Some (c.in-Some.end + 1))) c.self.view_is
    (until_ended inside.block_of.items inside.ends.items inside.outer.items inside.current inside.begun inside.ended c.args.from at block c.in-Some.end c.self.invariant l in_range c.index.ensures ended)
