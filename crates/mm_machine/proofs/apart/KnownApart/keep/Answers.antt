use Rattle.std.proofs.Common.{◌<◌, length, refl, sym, subst, arith, inl, inr, Contains}
use Rattle.mm_machine.{specs.declared.apart.KnownChunk.{KnownChunk}, proofs.lemmas.{machine.SetLemmas.{known_later, changed_has}, lists.Members.{pushed}}}
use Rattle.mm_machine.proofs.apart.KnownApart.keep.Goals as goal

pub returns-then-place-len : goal.returns-then-place-len
returns-then-place-len c active all knows apart =
    let self = c.args.self.now in
    let r : KnownChunk = record { variable = c.args.variable; chunk = c.args.chunk } in
    let within : c.place_of-place.result < length self.later.items = omega (arith, c.if-place-len.true, c.len.ensures, self.later.ok) in
    known_later active all self _ r refl (λ x k. changed_has self.later.items c.place_of-place.result r x within k) knows apart

pub returns : goal.returns
returns c active all knows apart =
    let self = c.args.self.now in
    let r : KnownChunk = record { variable = c.args.variable; chunk = c.args.chunk } in
    known_later active all self _ r refl
    (λ x k. elim ((pushed self.later.items r x).0 (subst (λ w. Contains w x) c.in_ok-push.ensures.items k)) [ inl d ↦ inr d | inr e ↦ inl (sym e) ]) knows apart
