use Rattle.std.proofs.{lemmas.{Grind.{common_steps}, List.{take_more, take_all, map-append}}, Common.{◌∷◌, [], map, take, get_or, ◌∙◌, ap, arith}}
use Rattle.mm_frame.specs.declared.base.Resolved.TheVariants as answers
use Rattle.mm_verdict.proofs.reading.hypotheses.Goals as goal

pub loop-number-preserved : goal.loop-number-preserved
loop-number-preserved c =
    let numbers = c.args.mandatory.now in
    let n = c.loop-number.number-index in
    let number = get_or numbers n 0 in
    grind (arith, common_steps, take_more numbers n 0 c.loop-number-test.true, map-append answers.Hypothesis (take n numbers) (number ∷ [])) steps 200000

pub returns : goal.returns
returns c = c.loop-number.invariant ∙ ap (map answers.Hypothesis) (take_all c.loop-number.number-index c.args.mandatory.now (omega arith))
