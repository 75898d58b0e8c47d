use Rattle.std.proofs.{lemmas.{Grind.{common_steps}, Bool.{false≢true}}, Common.{◌++◌, ◌∷◌, [], refl, sym, ◌∙◌, ap, arith, map, take}}
use Rattle.mm_machine.proofs.lemmas.machine.RoomLemmas.{map_next, range_at, range_next}
use Rattle.mm_machine.proofs.kept.has_at.Goals as goal

pub returns-then-not-is : goal.returns-then-not-is
returns-then-not-is g c = grind (arith, common_steps, false≢true, range_at) steps 200000

pub loop-n-preserved : goal.loop-n-preserved
loop-n-preserved g c =
    let m = g.S.Symbol.means in
    let x = c.index-all-at.result in
    range_next m c.args.all.now c.args.at c.loop-n.n x x (omega (arith, c.requires, c.loop-n-test.true)) (ap m c.index-all-at.is)
    ∙ ap (λ w. w ++ m x ∷ []) c.loop-n.invariant ∙ ap (λ w. take c.loop-n.n (map g.S.Listed.Symbol.means c.args.listed.now) ++ w ∷ []) (c.if-not-is.ensures.0 refl)
    ∙ sym (map_next g.S.Listed.Symbol.means c.args.listed.now c.loop-n.n c.index-listed-n.result c.loop-n-test.true c.index-listed-n.is)
