use Rattle.mm_frame.proofs.lemmas.pairs.DisjointRowLemmas.{puts_more}
use Rattle.mm_frame.proofs.disjoint_rows.DisjointRows.add.Goals as goal

pub loop-k-preserved : goal.loop-k-preserved
loop-k-preserved c once = puts_more c.args.self.now c.loop-k.self c.put.new.self c.args.blocks.now c.args.names.now c.loop-k.k c.args.number once c.loop-k-test.true (c.loop-k.invariant once) c.in_ok-put.ensures
