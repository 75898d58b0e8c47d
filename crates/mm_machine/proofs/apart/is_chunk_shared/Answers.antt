use Rattle.std.proofs.{Common.{rules, ℕ, get_or, arith}, lemmas.Option.{slice_get-get_or}}
use Rattle.mm_machine.{specs.{declared.sets.Chunk.{Chunk}, Code.PairClause.{InChunk}}, proofs.lemmas.{machine.ApartLemmas.{each_more, each_all}, lists.Members.{contains_at}}}
use Rattle.mm_machine.proofs.apart.is_chunk_shared.Goals as goal

pub loop-n-init : goal.loop-n-init
loop-n-init c k w l at n i j = absurd (omega (arith, l))

pub returns-then-meet : goal.returns-then-meet
returns-then-meet c = search (rules, contains_at, slice_get-get_or)

pub loop-n-preserved : goal.loop-n-preserved
loop-n-preserved c =
    let set = c.args.set.now in
    let none : Chunk = record { at = 0; bits = 0 } in
    each_more (λ w. (n : ℕ) → InChunk c.args.chunk n → InChunk w n → ⊥) set c.loop-n.n (get_or set c.loop-n.n none) (slice_get-get_or set c.loop-n.n none c.loop-n-test.true) c.if-meet.ensures c.loop-n.invariant

pub returns : goal.returns
returns c n i h =
    each_all (λ w. (n : ℕ) → InChunk c.args.chunk n → InChunk w n → ⊥) c.args.set.now c.loop-n.n (omega (arith, c.loop-n-test.false)) c.loop-n.invariant h.0 h.1 n i h.2
