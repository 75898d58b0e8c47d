use Rattle.mmtests.proofs.machines.agrees.Goals as goal

pub runs_agree-agree-requires-clause-order : goal.runs_agree-agree-requires-clause-order
runs_agree-agree-requires-clause-order c = let has = c.requires in c.numbers_keep_order.ensures c.in-Some.pairs.now (c.in-Some.ensures.order has.0 (c.args.names.now, has.1.base))
