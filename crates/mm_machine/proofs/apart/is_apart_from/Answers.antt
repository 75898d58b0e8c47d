use Rattle.std.proofs.{Common.{map, get_or, arith}, lemmas.{Option.{slice_get-get_or}, List.{length-map}}}
use Rattle.mm_machine.{specs.{Language.CodeLists.{meant_pairs}, declared.sets.Chunk.{Chunk}, Code.PairClause.{ApartFrom}}, proofs.lemmas.machine.ApartLemmas.{each_more, each_all}}
use Rattle.mm_machine.proofs.lemmas.lists.Members.{contains_at}
use Rattle.mm_machine.proofs.apart.is_apart_from.Goals as goal

pub loop-n-init : goal.loop-n-init
loop-n-init g c = record { known = c.requires.known; apart = λ k w l at n i. absurd (omega (arith, l)) }

pub is_apart_from_chunk-requires-clause-known : goal.is_apart_from_chunk-requires-clause-known
is_apart_from_chunk-requires-clause-known g c = c.loop-n.invariant.known

pub is_apart_from_chunk-requires-clause-chunk : goal.is_apart_from_chunk-requires-clause-chunk
is_apart_from_chunk-requires-clause-chunk g c n i =
    let set = c.args.set.now in
    let w = get_or set c.loop-n.n (record { at = 0; bits = 0 }) in
    omega (arith, c.requires.set n (w, contains_at set c.loop-n.n w (slice_get-get_or set c.loop-n.n _ c.loop-n-test.true), i), length-map c.args.all.now g.S.Symbol.means)

pub returns-then-not-branch-clause-apart : goal.returns-then-not-branch-clause-apart
returns-then-not-branch-clause-apart g c =
    let set = c.args.set.now in
    let w = get_or set c.loop-n.n (record { at = 0; bits = 0 }) in
    let f = rw c.if-not-branch.true at c.in_ok-is_apart_from_chunk.ensures.apart in
    (f.0, (w, contains_at set c.loop-n.n w (slice_get-get_or set c.loop-n.n _ c.loop-n-test.true), f.1), f.2)

pub loop-n-preserved : goal.loop-n-preserved
loop-n-preserved g c =
    let set = c.args.set.now in
    let none : Chunk = record { at = 0; bits = 0 } in
    record {
      known = c.in_ok-is_apart_from_chunk.ensures.known;
      apart = each_more (ApartFrom (meant_pairs g.S.Listed.Symbol.means c.args.active.now.pairs.now) (map g.S.Symbol.means c.args.all.now) c.args.variable) set c.loop-n.n (get_or set c.loop-n.n none)
          (slice_get-get_or set c.loop-n.n none c.loop-n-test.true) (rw c.if-not-branch.false at c.in_ok-is_apart_from_chunk.ensures.apart) c.loop-n.invariant.apart;
    }

pub returns-clause-known : goal.returns-clause-known
returns-clause-known g c = c.loop-n.invariant.known

pub returns-clause-apart : goal.returns-clause-apart
returns-clause-apart g c n h =
    each_all (ApartFrom (meant_pairs g.S.Listed.Symbol.means c.args.active.now.pairs.now) (map g.S.Symbol.means c.args.all.now) c.args.variable) c.args.set.now c.loop-n.n
    (omega (arith, c.loop-n-test.false)) c.loop-n.invariant.apart h.0 h.1 n h.2
