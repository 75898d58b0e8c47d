use Rattle.std.proofs.Common.{rules, arith}
use Rattle.mm_machine.proofs.lemmas.machine.CopyLemmas.{coded_ranges, same_more, same_part}
use Rattle.mm_machine.proofs.kept.CodedSymbolKept.are_same.Goals as goal

pub returns-then-not-same_in_block : goal.returns-then-not-same_in_block
returns-then-not-same_in_block c =
    let same = coded_ranges c.args.one.now c.args.other.now _ _ 4 in
    (search rules, (λ e. c.if-not-same_in_block.ensures.1 (same.0 (same_part _ _ c.args.at c.args.from c.loop-n.n 4 c.args.len (omega arith) e))))

pub loop-n-preserved : goal.loop-n-preserved
loop-n-preserved c = search (rules, coded_ranges, same_more)

pub returns : goal.returns
returns c = search (rules, coded_ranges, same_more, same_part)
