use Rattle.std.proofs.{Common.{arith, ◌++◌, take_all, ap, ◌∙◌}, lemmas.Grind.{common_steps}}
use Rattle.mm_frame.{specs.Code.KeptSymbols.{float_numbers}, proofs.lemmas.lists.Growing.{flat_map_grows}}
use Rattle.mm_frame.proofs.mandatory.add_floats.Goals as goal

pub loop-symbol-preserved : goal.loop-symbol-preserved
loop-symbol-preserved c = grind (arith, common_steps, flat_map_grows) steps 200000

pub returns : goal.returns
returns c = c.loop-symbol.invariant ∙ ap (λ w. c.args.numbers.now.items ++ float_numbers c.args.tables.now w) (take_all c.loop-symbol.symbol-index c.args.symbols.now c.loop-symbol-test.false)
