use Rattle.std.{proofs.Common.{rules, ℕ, ◌+◌, ◌*◌, map, sym, arith, subst, w64}, specs.Int.{trailing_zeros}}
use Rattle.mm_machine.specs.{Language.CodeLists.{meant_pairs}, Code.PairClause.{ApartAt, HasNumber}}
use Rattle.mm_machine.proofs.lemmas.machine.SetLemmas.{all_done, left_bound, left_in, lowest, lowest_done, none_done, without}
use Rattle.mm_machine.proofs.apart.is_chunk_apart.Goals as goal

pub loop-left-init : goal.loop-left-init
loop-left-init g c = record { known = c.requires.known; bits = none_done _ _ }

pub overflow_mul-chunk : goal.overflow_mul-chunk
overflow_mul-chunk g c = let b = left_bound c.args.chunk c.args.chunk.bits c.loop-left.left _ _ (λ k e. e) c.requires.chunk c.loop-left-test.true (search rules) c.loop-left.invariant.bits in omega (arith, b)

pub overflow_add-chunk : goal.overflow_add-chunk
overflow_add-chunk g c = let b = left_bound c.args.chunk c.args.chunk.bits c.loop-left.left _ _ (λ k e. e) c.requires.chunk c.loop-left-test.true (search rules) c.loop-left.invariant.bits in omega (arith, b)

pub is_apart_from-requires-clause-known : goal.is_apart_from-requires-clause-known
is_apart_from-requires-clause-known g c = c.loop-left.invariant.known

pub is_apart_from-requires-clause-variable : goal.is_apart_from-requires-clause-variable
is_apart_from-requires-clause-variable g c = left_bound c.args.chunk c.args.chunk.bits c.loop-left.left _ _ (λ k e. e) c.requires.chunk c.loop-left-test.true (search rules) c.loop-left.invariant.bits

pub returns-then-not-branch-clause-apart : goal.returns-then-not-branch-clause-apart
returns-then-not-branch-clause-apart g c =
    let f = rw c.if-not-branch.true at c.in_ok-is_apart_from.ensures.apart in
    (64 * c.args.chunk.at + trailing_zeros w64 c.loop-left.left, f.0, left_in c.args.chunk c.args.chunk.bits c.loop-left.left _ (λ k e. e) c.loop-left-test.true (search rules) c.loop-left.invariant.bits, f.1, f.2)

pub loop-left-smaller : goal.loop-left-smaller
loop-left-smaller g c = let l = lowest c.loop-left.left c.loop-left-test.true (search rules) in (without c.loop-left.left (trailing_zeros w64 c.loop-left.left) l.0 l.1).0

pub loop-left-preserved : goal.loop-left-preserved
loop-left-preserved g c = search (rules, lowest_done)

pub returns-clause-known : goal.returns-clause-known
returns-clause-known g c = c.loop-left.invariant.known

pub returns-clause-apart : goal.returns-clause-apart
returns-clause-apart g c m n i h =
    let active = meant_pairs g.S.Listed.Symbol.means c.args.active.now.pairs.now in
    let all = map g.S.Symbol.means c.args.all.now in
    subst (λ x. ApartAt active all x n) (sym i.3)
    (all_done c.args.chunk.bits c.loop-left.left (λ k. (n : ℕ) → HasNumber c.args.set.now n → ApartAt active all (64 * c.args.chunk.at + k) n) c.loop-left-test.false c.loop-left.invariant.bits i.0 i.1 i.2 n h)
