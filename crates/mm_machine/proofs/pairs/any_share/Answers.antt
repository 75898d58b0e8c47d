use Rattle.std.proofs.{Common.{List, get_or, arith}, lemmas.Option.{slice_get_within, slice_get-get_or}}
use Rattle.mm_machine.{specs.{Code.PairClause.{SomeShared, AtSlots}, declared.{gather.SlotPair.{SlotPair}, sets.Chunk.{Chunk}}}, proofs.lemmas.machine.ApartLemmas.{each_more}}
use Rattle.mm_machine.proofs.lemmas.machine.PairClauseLemmas.{at_slots}
use Rattle.mm_machine.proofs.pairs.any_share.Goals as goal

pub returns-then-share : goal.returns-then-share
returns-then-share c =
    let pairs = c.args.pairs.now in
    let none : SlotPair = record { first = 0; second = 0 } in
    let p = get_or pairs c.loop-n.n none in (
      c.loop-n.n,
      p,
      slice_get-get_or pairs c.loop-n.n none c.loop-n-test.true,
      at_slots SomeShared c.args.chunks.now c.args.spans.now p c.set_of-first.result.now c.set_of-second.result.now c.set_of-first.ensures c.set_of-second.ensures c.if-share.ensures,
    )

pub loop-n-preserved : goal.loop-n-preserved
loop-n-preserved c =
    let chunks = c.args.chunks.now in
    let spans = c.args.spans.now in
    let pairs = c.args.pairs.now in
    let none : SlotPair = record { first = 0; second = 0 } in
    let p = get_or pairs c.loop-n.n none in
    let P : List Chunk → List Chunk → Type 0 = λ xs ys. SomeShared xs ys → ⊥ in
    each_more (AtSlots P chunks spans) pairs c.loop-n.n p (slice_get-get_or pairs c.loop-n.n none c.loop-n-test.true)
    (at_slots P chunks spans p c.set_of-first.result.now c.set_of-second.result.now c.set_of-first.ensures c.set_of-second.ensures c.if-share.ensures) c.loop-n.invariant

pub returns : goal.returns
returns c k p at = c.loop-n.invariant k p (omega (arith, c.loop-n-test.false, slice_get_within c.args.pairs.now k p at)) at
