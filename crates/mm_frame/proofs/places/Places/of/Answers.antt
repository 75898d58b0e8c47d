use Rattle.std.proofs.{Common.{arith, false, sym, ◌∙◌}, lemmas.{Grind.{common_steps}, Option.{slice_get-get_or}}}
use Rattle.mm_frame.proofs.lemmas.pairs.PlaceLemmas.{placed_more, placed_all}
use Rattle.mm_frame.proofs.places.Places.of.Goals as goal

pub loop-n-preserved : goal.loop-n-preserved
loop-n-preserved c =
    placed_more c.loop-n.n c.args.symbols.now (record { places = c.loop-n.places }) (record { places = c.insert.new.self }) _
    (slice_get-get_or c.args.symbols.now c.loop-n.n (record { name = 0; variable = false }) c.loop-n-test.true) c.loop-n.invariant
    (sym c.in_ok-twice.ensures.old ∙ (grind (arith, common_steps, sym c.is_some.ensures ∙ c.if-is_some.false) steps 200000))
    (λ name. c.in_ok-twice.ensures.updates.0 name)

pub returns : goal.returns
returns c = placed_all c.loop-n.n c.args.symbols.now (record { places = c.loop-n.places }) c.loop-n-test.false c.loop-n.invariant
