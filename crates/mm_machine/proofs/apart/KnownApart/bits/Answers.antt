use Rattle.std.proofs.Common.{◌<◌, ◌+◌, ◌*◌, length, sym, ◌∙◌, ap, subst, arith}
use Rattle.mm_machine.specs.Code.PairClause.{ApartFrom}
use Rattle.mm_machine.proofs.apart.KnownApart.bits.Goals as goal

pub returns-then-known-at : goal.returns-then-known-at
returns-then-known-at c active all knows n i =
    let self = c.args.self.now in
    let r = c.index-known.result.now in
    let within : c.place_of-place.result < length self.later.items = omega (arith, c.if-place-len.true, c.len-2.ensures, self.later.ok) in
    subst (λ m. ApartFrom active all m r.chunk) c.if-known-variable.true (knows.later r (c.place_of-place.result, within, sym c.index-known.ensures))
    n (i.0, i.1, i.2, i.3 ∙ ap (λ a. 64 * a + i.0) (sym c.if-known-at.true))
