use Rattle.mm_verdict.proofs.checking.check.Goals as goal

pub returns : goal.returns
returns c = rw c.new-checker.ensures at c.check.ensures.check

pub check-requires : goal.check-requires
check-requires c = rw c.new-checker.ensures c.requires
