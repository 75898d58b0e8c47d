use Rattle.mm_verdict.proofs.checker.Checker.judge.Goals as goal

pub judge-judged-requires : goal.judge-judged-requires
judge-judged-requires c = rw c.base-base.ensures (record { proof = c.requires; known = rw (← c.self.view_is) c.self.invariant })

pub invariant_of-self : goal.invariant_of-self
invariant_of-self c = c.forget.ensures _
