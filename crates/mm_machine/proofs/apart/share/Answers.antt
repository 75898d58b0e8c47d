use Rattle.std.proofs.{lemmas.{Grind.{common_steps}, Option.{slice_get-get_or}}, Common.{ℕ, get_or, arith}}
use Rattle.mm_machine.{specs.{declared.sets.Chunk.{Chunk}, Code.PairClause.{InChunk, HasNumber}}, proofs.lemmas.{machine.ApartLemmas.{each_more, each_all}, lists.Members.{contains_at}}}
use Rattle.mm_machine.proofs.apart.share.Goals as goal

pub loop-n-init : goal.loop-n-init
loop-n-init c k w l at n i j = absurd (omega (arith, l))

pub returns-then-is_chunk_shared : goal.returns-then-is_chunk_shared
returns-then-is_chunk_shared c = grind (arith, common_steps, contains_at, slice_get-get_or) steps 200000

pub loop-n-preserved : goal.loop-n-preserved
loop-n-preserved c =
    let one = c.args.one.now in
    let none : Chunk = record { at = 0; bits = 0 } in
    each_more (λ w. (n : ℕ) → InChunk w n → HasNumber c.args.other.now n → ⊥) one c.loop-n.n (get_or one c.loop-n.n none) (slice_get-get_or one c.loop-n.n none c.loop-n-test.true) c.if-is_chunk_shared.ensures c.loop-n.invariant

pub returns : goal.returns
returns c s =
    each_all (λ w. (n : ℕ) → InChunk w n → HasNumber c.args.other.now n → ⊥) c.args.one.now c.loop-n.n (omega (arith, c.loop-n-test.false)) c.loop-n.invariant s.1.0 s.1.1 s.0 s.1.2 s.2
