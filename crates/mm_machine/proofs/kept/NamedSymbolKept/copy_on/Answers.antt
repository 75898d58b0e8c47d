use Rattle.std.proofs.{Common.{rules, arith, ◌∙◌}, lemmas.List.{length-map}}
use Rattle.mm_machine.{specs.Language.NumberedSymbols.{named_symbol}, proofs.lemmas.machine.CopyLemmas.{copied_one, one_at, source_stays}}
use Rattle.mm_machine.proofs.kept.NamedSymbolKept.copy_on.Goals as goal

pub loop-n-preserved : goal.loop-n-preserved
loop-n-preserved c =
    copied_one named_symbol _ _ c.loop-n.all _ _ c.loop-n.n _ (omega arith) c.loop-n.invariant
    (one_at named_symbol c.loop-n.all _ _ _ (omega arith) c.index-all-from.is (search rules)
    ∙ source_stays _ _ _ c.args.to _ 1 c.loop-n.n (omega (arith, length-map c.args.all.now named_symbol)) (omega arith) c.loop-n.invariant)
