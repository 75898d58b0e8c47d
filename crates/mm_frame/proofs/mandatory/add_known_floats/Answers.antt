use Rattle.std.proofs.Common.{false, ◌++◌, flat_map, take_all, ap, ◌∙◌}
use Rattle.mm_frame.{specs.Code.KeptVariables.{known_float}, proofs.lemmas.lists.Growing.{flat_map_grows}}
use Rattle.mm_frame.proofs.mandatory.add_known_floats.Goals as goal

pub loop-variable-preserved : goal.loop-variable-preserved
loop-variable-preserved c rising =
    flat_map_grows (known_float c.args.tables.now c.args.essentials.now) c.args.variables.now c.loop-variable.variable-index (record { number = 0; symbol = record { name = 0; variable = false } })
    c.args.numbers.now.items c.loop-variable.numbers.items c.add_known_float.new.numbers.items c.loop-variable-test.true (c.loop-variable.invariant rising) (c.in_ok-add_known_float.ensures rising)

pub returns : goal.returns
returns c rising = c.loop-variable.invariant rising ∙ ap (λ w. c.args.numbers.now.items ++ flat_map (known_float c.args.tables.now c.args.essentials.now) w) (take_all c.loop-variable.variable-index c.args.variables.now c.loop-variable-test.false)
