use Rattle.std.proofs.{Common.{List, map, get_or, arith}, lemmas.Option.{slice_get_within, slice_get-get_or}}
use Rattle.mm_machine.specs.{Language.CodeLists.{meant_pairs}, Code.PairClause.{EachApart, AtSlots, SomeNotApart}, declared.{gather.SlotPair.{SlotPair}, sets.Chunk.{Chunk}}}
use Rattle.mm_machine.proofs.lemmas.machine.{ApartLemmas.{each_more}, PairClauseLemmas.{at_slots, slot_numbers}}
use Rattle.mm_machine.proofs.pairs.all_apart.Goals as goal

pub loop-n-init : goal.loop-n-init
loop-n-init g c = record { known = c.requires.known; apart = λ k p l at m n i j. absurd (omega (arith, l)) }

pub are_apart-requires-clause-known : goal.are_apart-requires-clause-known
are_apart-requires-clause-known g c = c.loop-n.invariant.known

pub are_apart-requires-clause-one : goal.are_apart-requires-clause-one
are_apart-requires-clause-one g c = slot_numbers (map g.S.Symbol.means c.args.all.now) c.args.chunks.now c.args.spans.now _ c.set_of-first.result.now c.set_of-first.ensures c.requires.numbers

pub are_apart-requires-clause-other : goal.are_apart-requires-clause-other
are_apart-requires-clause-other g c = slot_numbers (map g.S.Symbol.means c.args.all.now) c.args.chunks.now c.args.spans.now _ c.set_of-second.result.now c.set_of-second.ensures c.requires.numbers

pub returns-then-not-branch-clause-apart : goal.returns-then-not-branch-clause-apart
returns-then-not-branch-clause-apart g c =
    let chunks = c.args.chunks.now in
    let spans = c.args.spans.now in
    let pairs = c.args.pairs.now in
    let none : SlotPair = record { first = 0; second = 0 } in
    let p = get_or pairs c.loop-n.n none in (
      c.loop-n.n,
      p,
      slice_get-get_or pairs c.loop-n.n none c.loop-n-test.true,
      at_slots (SomeNotApart (meant_pairs g.S.Listed.Symbol.means c.args.active.now.pairs.now) (map g.S.Symbol.means c.args.all.now)) chunks spans p c.set_of-first.result.now c.set_of-second.result.now
          c.set_of-first.ensures c.set_of-second.ensures (rw c.if-not-branch.true at c.in_ok-are_apart.ensures.apart),
    )

pub loop-n-preserved : goal.loop-n-preserved
loop-n-preserved g c =
    let chunks = c.args.chunks.now in
    let spans = c.args.spans.now in
    let pairs = c.args.pairs.now in
    let none : SlotPair = record { first = 0; second = 0 } in
    let p = get_or pairs c.loop-n.n none in
    let P : List Chunk → List Chunk → Type 0 = EachApart (meant_pairs g.S.Listed.Symbol.means c.args.active.now.pairs.now) (map g.S.Symbol.means c.args.all.now) in
    record {
      known = c.in_ok-are_apart.ensures.known;
      apart = each_more (AtSlots P chunks spans) pairs c.loop-n.n p (slice_get-get_or pairs c.loop-n.n none c.loop-n-test.true)
          (at_slots P chunks spans p c.set_of-first.result.now c.set_of-second.result.now c.set_of-first.ensures c.set_of-second.ensures (rw c.if-not-branch.false at c.in_ok-are_apart.ensures.apart)) c.loop-n.invariant.apart;
    }

pub returns-clause-known : goal.returns-clause-known
returns-clause-known g c = c.loop-n.invariant.known

pub returns-clause-apart : goal.returns-clause-apart
returns-clause-apart g c k p at = c.loop-n.invariant.apart k p (omega (arith, c.loop-n-test.false, slice_get_within c.args.pairs.now k p at)) at
