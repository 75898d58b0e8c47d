use Rattle.std.proofs.{Common.{◌∙◌, ap, length, subst, sym, All}, lemmas.List.Elements.{All-push}}
use Rattle.mm_machine.specs.Language.{Lasting.{IsCited}, NumberedSymbols.{named_symbol}}
use Rattle.mmtests.{specs.Code.SpelledAssertions.{IsCitedSo}, proofs.SpelledLemmas.{longer}}
use Rattle.mmtests.proofs.machines.lent_cited.Goals as goal

pub loop-k-preserved : goal.loop-k-preserved
loop-k-preserved c =
    let before = c.loop-k.invariant in
    let lent = c.loop-k.lent.items in
    let items = c.in_ok-push.ensures.items in
    let one = c.lent_assertion.result in
    record {
      count = ap length items ∙ longer lent one c.loop-k.k before.count;
      cited = λ lasting all. subst (All (IsCited named_symbol lasting)) (sym items)
          (All-push (IsCited named_symbol lasting) lent one (before.cited lasting all)
          (c.lent_assertion.ensures lasting (subst (λ n. IsCitedSo lasting n.expression n.hypotheses.items n.pairs.items) (sym c.index-named-k.is) (all c.loop-k.k c.index-named-k.result c.loop-k-test.true))));
    }
