use Rattle.std.proofs.Common.{rules, arith}
use Rattle.mm_machine.{specs.Language.NumberedSymbols.{named_symbol}, proofs.lemmas.machine.CopyLemmas.{same_more, same_one, same_part}}
use Rattle.mm_machine.proofs.kept.NamedSymbolKept.are_same.Goals as goal

pub returns-then-not-same : goal.returns-then-not-same
returns-then-not-same c =
    let one = same_one named_symbol c.args.one.now c.args.other.now _ _ _ _ (omega arith) c.index-one-at.is (omega arith) c.index-other-from.is in
    (search rules, (λ e. c.if-not-same.ensures.1 (one.0 (same_part _ _ c.args.at c.args.from c.loop-n.n 1 c.args.len (omega arith) e))))

pub loop-n-preserved : goal.loop-n-preserved
loop-n-preserved c = search (rules, same_more, same_one)
