use Rattle.std.proofs.Common.{◌++◌, flat_map, take_all, ap, ◌∙◌}
use Rattle.mm_frame.{specs.Code.KeptPlaces.{pair_at}, proofs.lemmas.lists.Growing.{flat_map_grows}}
use Rattle.mm_frame.proofs.partners.add_partners_at.Goals as goal

pub loop-place-preserved : goal.loop-place-preserved
loop-place-preserved c = flat_map_grows (pair_at c.args.first c.args.variables.now) c.args.places.now c.loop-place.place-index 0 c.args.pairs.now.items
    c.loop-place.pairs.items c.add_partner_at.new.pairs.items c.loop-place-test.true c.loop-place.invariant c.in_ok-add_partner_at.ensures

pub returns : goal.returns
returns c = c.loop-place.invariant ∙ ap (λ w. c.args.pairs.now.items ++ flat_map (pair_at c.args.first c.args.variables.now) w) (take_all c.loop-place.place-index c.args.places.now c.loop-place-test.false)
