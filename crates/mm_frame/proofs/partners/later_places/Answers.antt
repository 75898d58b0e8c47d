use Rattle.std.proofs.{Common.{eqb, sym, arith, ℕ, flat_map, take_all, ap, subst, ◌∙◌, ◌↔◌, Contains}, lemmas.List.{Filters.{dedup_is}, Kept.{AllPairs-from_increasing}}}
use Rattle.std.{proofs.lemmas.{Map.Keys.{IsStrictlyIncreasing-dedup}, Grind.{common_steps}}, specs.List.{dedup}}
use Rattle.mm_frame.{specs.Code.{LastItems.{IsRising}, KeptPlaces.{later_places_at}}, proofs.lemmas.{lists.Growing.{flat_map_grows}, pairs.PlaceLemmas.{same_once}}}
use Rattle.mm_frame.proofs.partners.later_places.Goals as goal

pub loop-number-preserved : goal.loop-number-preserved
loop-number-preserved c = grind (arith, common_steps, flat_map_grows) steps 200000

pub returns-clause-rising : goal.returns-clause-rising
returns-clause-rising c =
    subst IsRising (sym (dedup_is eqb c.sort.new.self.items c.dedup.new.self.items c.dedup.ensures.filtered))
    (AllPairs-from_increasing (dedup eqb c.sort.new.self.items) (IsStrictlyIncreasing-dedup c.sort.new.self.items c.in_ok-sort.ensures.sorted))

pub returns-clause-same : goal.returns-clause-same
returns-clause-same c =
    let whole = c.loop-number.invariant ∙ ap (flat_map (later_places_at c.args.places.now c.args.blocks.now c.args.expressions.now c.args.from)) (take_all c.loop-number.number-index c.args.row.now c.loop-number-test.false) in
    subst (λ w. (k : ℕ) → Contains c.dedup.new.self.items k ↔ Contains w k) whole (same_once c.loop-number.found.items c.sort.new.self.items c.dedup.new.self.items c.in_ok-sort.ensures.permutation c.dedup.ensures.filtered)
