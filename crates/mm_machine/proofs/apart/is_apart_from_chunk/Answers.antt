use Rattle.std.{proofs.Common.{rules, map, ◌+◌, ◌*◌, arith, w64}, specs.Int.{trailing_zeros}}
use Rattle.mm_machine.{specs.Language.CodeLists.{meant_pairs}, proofs.lemmas.machine.FlatLemmas.{mapped_get}}
use Rattle.mm_machine.proofs.lemmas.machine.SetLemmas.{all_known, apart_both, asked_all, asked_in, lowest, lowest_done, none_done, without}
use Rattle.mm_machine.proofs.apart.is_apart_from_chunk.Goals as goal

pub loop-left-init : goal.loop-left-init
loop-left-init g c = none_done _ _

pub overflow_mul-chunk : goal.overflow_mul-chunk
overflow_mul-chunk g c =
    let b = c.requires.chunk _ (asked_in c.args.chunk c.bits-bits.result c.loop-left.left _ c.loop-left-test.true (search rules) c.loop-left.invariant) in
    omega (arith, b)

pub overflow_add-chunk : goal.overflow_add-chunk
overflow_add-chunk g c =
    let b = c.requires.chunk _ (asked_in c.args.chunk c.bits-bits.result c.loop-left.left _ c.loop-left-test.true (search rules) c.loop-left.invariant) in
    omega (arith, b)

pub offset_bounds-all-chunk : goal.offset_bounds-all-chunk
offset_bounds-all-chunk g c =
    let b = c.requires.chunk _ (asked_in c.args.chunk c.bits-bits.result c.loop-left.left _ c.loop-left-test.true (search rules) c.loop-left.invariant) in
    omega (arith, b)

pub bounds-all-chunk : goal.bounds-all-chunk
bounds-all-chunk g c = c.requires.chunk _ (asked_in c.args.chunk c.bits-bits.result c.loop-left.left _ c.loop-left-test.true (search rules) c.loop-left.invariant)

pub returns-then-not-is_apart-clause-apart : goal.returns-then-not-is_apart-clause-apart
returns-then-not-is_apart-clause-apart g c =
    let m = g.S.Symbol.means in
    let all = c.args.all.now in
    let n = 64 * c.args.chunk.at + trailing_zeros w64 c.loop-left.left in
    let i = asked_in c.args.chunk c.bits-bits.result c.loop-left.left _ c.loop-left-test.true (search rules) c.loop-left.invariant in (
      n,
      i,
      (
        m c.index-all-variable.result,
        m c.index-all-chunk.result,
        mapped_get m all c.args.variable c.index-all-variable.result c.requires.variable c.index-all-variable.is,
        mapped_get m all n c.index-all-chunk.result (c.requires.chunk n i) c.index-all-chunk.is,
        c.if-not-is_apart.ensures,
      ),
    )

pub loop-left-smaller : goal.loop-left-smaller
loop-left-smaller g c = let l = lowest c.loop-left.left c.loop-left-test.true (search rules) in (without c.loop-left.left (trailing_zeros w64 c.loop-left.left) l.0 l.1).0

pub loop-left-preserved : goal.loop-left-preserved
loop-left-preserved g c =
    let m = g.S.Symbol.means in
    let all = c.args.all.now in
    let n = 64 * c.args.chunk.at + trailing_zeros w64 c.loop-left.left in
    let i = asked_in c.args.chunk c.bits-bits.result c.loop-left.left _ c.loop-left-test.true (search rules) c.loop-left.invariant in
    lowest_done _ c.loop-left.left _ c.loop-left-test.true (search rules) (
      m c.index-all-variable.result,
      m c.index-all-chunk.result,
      mapped_get m all c.args.variable c.index-all-variable.result c.requires.variable c.index-all-variable.is,
      mapped_get m all n c.index-all-chunk.result (c.requires.chunk n i) c.index-all-chunk.is,
      c.if-not-is_apart.ensures,
    ) c.loop-left.invariant

pub returns-clause-known : goal.returns-clause-known
returns-clause-known g c =
    let active = meant_pairs g.S.Listed.Symbol.means c.args.active.now.pairs.now in
    let all = map g.S.Symbol.means c.args.all.now in
    let bits = c.bits-bits.ensures active all c.requires.known in
    let each = asked_all active all c.args.variable c.args.chunk c.bits-bits.result c.loop-left.left (search rules) c.loop-left-test.false bits c.loop-left.invariant in
    c.in_ok-keep.ensures active all c.requires.known (apart_both active all c.args.variable c.args.chunk c.bits-bits.result each bits)

pub returns-clause-apart : goal.returns-clause-apart
returns-clause-apart g c =
    let active = meant_pairs g.S.Listed.Symbol.means c.args.active.now.pairs.now in
    let all = map g.S.Symbol.means c.args.all.now in
    let bits = c.bits-bits.ensures active all c.requires.known in
    asked_all active all c.args.variable c.args.chunk c.bits-bits.result c.loop-left.left (search rules) c.loop-left-test.false bits c.loop-left.invariant

pub returns-then-left-eq0-clause-apart : goal.returns-then-left-eq0-clause-apart
returns-then-left-eq0-clause-apart g c =
    let active = meant_pairs g.S.Listed.Symbol.means c.args.active.now.pairs.now in
    let all = map g.S.Symbol.means c.args.all.now in
    all_known active all c.args.variable c.args.chunk c.bits-bits.result (search rules) c.if-left-eq0.true (c.bits-bits.ensures active all c.requires.known)
