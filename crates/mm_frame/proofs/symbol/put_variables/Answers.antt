use Rattle.std.proofs.Common.{[], map, take_all, ap, ◌∙◌}
use Rattle.mm_frame.{specs.Code.KeptSymbols.{variable_by}, proofs.lemmas.lists.Growing.{map_grows}}
use Rattle.mm_frame.proofs.symbol.put_variables.Goals as goal

pub loop-number-preserved : goal.loop-number-preserved
loop-number-preserved c = map_grows variable_by c.args.numbers.now c.loop-number.number-index 0 [] c.loop-number.variables.items c.push.new.self.items c.loop-number-test.true c.loop-number.invariant c.in_ok-push.ensures.items

pub returns : goal.returns
returns c = c.loop-number.invariant ∙ ap (map variable_by) (take_all c.loop-number.number-index c.args.numbers.now c.loop-number-test.false)
