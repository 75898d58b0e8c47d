use Rattle.mm_verdict.proofs.checker.Checker.widen.Goals as goal

pub invariant_of-self : goal.invariant_of-self
invariant_of-self c = c.widen.ensures _ c.self.invariant

pub widen-requires : goal.widen-requires
widen-requires c = c.self.invariant.holds
