use Rattle.std.proofs.{Common.{arith, ◌++◌, flat_map, take_all, ap, ◌∙◌}, lemmas.Grind.{common_steps}}
use Rattle.mm_frame.{specs.Code.KeptPlaces.{later_place}, proofs.lemmas.lists.Growing.{flat_map_grows}}
use Rattle.mm_frame.proofs.partners.add_later_places.Goals as goal

pub loop-symbol-preserved : goal.loop-symbol-preserved
loop-symbol-preserved c = grind (arith, common_steps, flat_map_grows) steps 200000

pub returns : goal.returns
returns c = c.loop-symbol.invariant ∙ ap (λ w. c.args.found.now.items ++ flat_map (later_place c.args.places.now c.args.from) w) (take_all c.loop-symbol.symbol-index c.args.symbols.now c.loop-symbol-test.false)
