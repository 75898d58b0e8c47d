use Rattle.std.proofs.{lemmas.{Grind.{common_steps}, List.{length-map, take_all}}, Common.{◌+◌, map, length, take, sym, subst, arith, append-nil}}
use Rattle.mm_machine.{specs.Code.PairClause.{GathersOne, GathersSymbols}, proofs.lemmas.machine.{FlatLemmas.{mapped_get}, GatherLemmas.{gathered_more, gathered_none, grown_twice}}}
use Rattle.mm_machine.proofs.gather.gather.Goals as goal

pub loop-i-init : goal.loop-i-init
loop-i-init g c = grind (arith, common_steps, append-nil, gathered_none) steps 200000

pub gather_one-requires-clause-start : goal.gather_one-requires-clause-start
gather_one-requires-clause-start g c = omega (arith, c.loop-i.invariant.begin, c.loop-i.invariant.so_far.long)

pub loop-i-preserved : goal.loop-i-preserved
loop-i-preserved g c =
    let m = g.S.Symbol.means in
    let symbols = map m c.args.symbols.now in
    let i = c.loop-i.i in
    let s = m c.index-symbols-i.result in
    let front = c.args.sets.now.chunks.items in
    let before = c.loop-i.sets.chunks.items in
    let after = c.gather_one.new.sets.chunks.items in
    let old = map m c.loop-i.variables.all.items in
    let new = map m c.gather_one.new.variables.all.items in
    let grow = c.in_ok-gather_one.ensures.grows in
    let was = c.loop-i.invariant in
    record {
      begin = was.begin;
      numbered = c.in_ok-gather_one.ensures.numbered;
      grows = grown_twice (map m c.args.variables.now.all.items) old new was.grows.0 grow.0 was.grows.1 grow.1;
      so_far = subst (λ w. GathersSymbols (take (i + 1) symbols) w front after) (sym grow.1)
          (gathered_more symbols old grow.0 front before after i s (mapped_get m c.args.symbols.now i c.index-symbols-i.result c.loop-i-test.true c.index-symbols-i.is)
          (subst (λ w. GathersOne (length front) s w before after) grow.1 (subst (λ k. GathersOne k s new before after) was.begin c.in_ok-gather_one.ensures.gathers)) was.so_far);
    }

pub returns-clause-gathers : goal.returns-clause-gathers
returns-clause-gathers g c = grind (arith, common_steps, length-map, take_all) steps 200000
