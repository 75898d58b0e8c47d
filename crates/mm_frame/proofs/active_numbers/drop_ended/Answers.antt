use Rattle.std.proofs.lemmas.{List.{length_push}, Option.{get_or_from_slice_get, none-some, same_Some, slice_get_within}, Grind.{common_steps}}
use Rattle.std.{proofs.Common.{Some, subst, ◌++◌, ◌≡◌, ◌-◌, length, slice_get, sym, ◌∙◌, ap, arith}, specs.Prelude.{option_to_list}}
use Rattle.mm_frame.proofs.lemmas.scope.{BlockLemmas.{get_last}, EndLemmas.{dropped_more}}
use Rattle.mm_frame.proofs.active_numbers.drop_ended.Goals as goal

pub returns-then-is_active_behind : goal.returns-then-is_active_behind
returns-then-is_active_behind c = grind (arith, common_steps, same_Some, length_push, get_last) steps 200000

pub loop-number-preserved : goal.loop-number-preserved
loop-number-preserved c =
    let numbers = c.loop-number.numbers in
    let there = ap (λ w. slice_get w (length w - 1)) (sym c.deref.ensures.value) ∙ sym c.last.ensures.value ∙ sym c.copied.ensures ∙ c.in-Some.is in
    let parts =
    (let w = slice_get_within numbers.items (length numbers.items - 1) c.in-Some.number there in
    c.pop.ensures.items ∙ ap (λ o. c.pop.new.self.items ++ option_to_list o)
    (c.pop.ensures.value 0 (omega arith)
    ∙ ap Some (get_or_from_slice_get numbers.items (numbers.len - 1) c.in-Some.number 0
    (subst (λ k. slice_get numbers.items k ≡ Some c.in-Some.number) (omega arith) there)))) in
    dropped_more c.args.blocks.now c.args.numbers.now.items numbers.items c.pop.new.self.items c.in-Some.number c.loop-number.invariant parts (sym c.is_active_behind.ensures ∙ c.if-is_active_behind.false)

pub returns : goal.returns
returns c = grind (arith, common_steps, none-some, length_push, get_last) steps 200000
