use Rattle.mm_frame.proofs.lemmas.pairs.DisjointRowLemmas.{puts_row}
use Rattle.mm_frame.proofs.disjoint_rows.DisjointRows.put.Goals as goal

pub returns : goal.returns
returns c = puts_row c.args.self.now c.grow.new.self c.args.blocks.now c.args.name c.args.number c.drop_ended.new.numbers.items c.index_mut-row.result.now
    c.push.new.self c.in_ok-grow.ensures.ok c.grow.ensures.same c.index_mut-row.ensures.value c.drop_ended.ensures c.in_ok-push.ensures.items
