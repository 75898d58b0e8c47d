use Rattle.std.proofs.{Common.{arith, map, take_all, ap, ◌∙◌}, lemmas.Grind.{common_steps}}
use Rattle.mm_frame.{specs.Code.KeptSymbols.{symbol_by}, proofs.lemmas.lists.Growing.{map_grows}}
use Rattle.mm_frame.proofs.symbol.put_symbols.Goals as goal

pub loop-number-preserved : goal.loop-number-preserved
loop-number-preserved c = grind (arith, common_steps, map_grows) steps 500000

pub returns : goal.returns
returns c = c.loop-number.invariant ∙ ap (map (symbol_by c.args.tables.now)) (take_all c.loop-number.number-index c.args.numbers.now c.loop-number-test.false)
