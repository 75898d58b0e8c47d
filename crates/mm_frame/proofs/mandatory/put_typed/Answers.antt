use Rattle.std.proofs.{Common.{append-nil, arith, take-suc, ◌∙◌, ◌++◌, ap, sym, get_or, take_all}, lemmas.Grind.{common_steps, flat_map-append}}
use Rattle.mm_frame.specs.Code.PairOrder.{float_variable, float_variables}
use Rattle.mm_frame.proofs.mandatory.put_typed.Goals as goal

pub loop-number-preserved : goal.loop-number-preserved
loop-number-preserved c rising =
    let more = float_variable c.args.essentials.now c.args.expressions.now (get_or c.args.hypotheses.now c.loop-number.number-index 0) in
    c.in_ok-add_variable.ensures rising ∙ ap (λ w. w ++ more) (c.loop-number.invariant rising)
    ∙ sym (grind (arith, common_steps, append-nil, flat_map-append, take-suc, c.loop-number-test.true) steps 200000)

pub returns : goal.returns
returns c rising = c.loop-number.invariant rising ∙ ap (float_variables c.args.essentials.now c.args.expressions.now) (take_all c.loop-number.number-index c.args.hypotheses.now c.loop-number-test.false)
