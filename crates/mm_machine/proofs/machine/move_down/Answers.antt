use Rattle.std.proofs.{lemmas.Grind.{common_steps}, Common.{◌+◌, map, drop, ap, arith, ◌∙◌}}
use Rattle.mm_machine.proofs.lemmas.machine.RoomLemmas.{put_next, range_next, same_end, end_kept}
use Rattle.mm_machine.proofs.machine.move_down.Goals as goal

pub loop-n-preserved : goal.loop-n-preserved
loop-n-preserved g c =
    let m = g.S.Symbol.means in
    let n = c.loop-n.n in
    let x = c.in_ok-symbol.symbol in
    let d = c.index-all-from.result in
    let part = drop c.args.from (map m c.args.all.now) in
    let same = same_end c.loop-n.all c.args.all.now (c.args.to + n) (c.args.from + n) d (omega (arith, c.requires.order)) c.loop-n.invariant.rest in
    let next = range_next m c.args.all.now c.args.from n x d (omega (arith, c.requires.within)) (c.in_ok-symbol.ensures ∙ ap m same) in
    record {
      moved = grind (arith, common_steps, put_next) steps 200000;
      rest = end_kept c.loop-n.all c.args.all.now c.args.to n x c.loop-n.invariant.rest;
    }
