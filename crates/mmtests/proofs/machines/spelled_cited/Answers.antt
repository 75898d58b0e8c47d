use Rattle.std.proofs.{Common.{◌∙◌, ap, length}, lemmas.List.Elements.{All-push}}
use Rattle.mmtests.{specs.Code.SpelledAssertions.{IsCitedSo}, proofs.SpelledLemmas.{longer}}
use Rattle.mmtests.proofs.machines.spelled_cited.Goals as goal

pub loop-k-preserved : goal.loop-k-preserved
loop-k-preserved c =
    let before = c.loop-k.invariant in
    let named = c.loop-k.named.items in
    let items = c.in_ok-push.ensures.items in
    let one = c.in_ok-spelled_assertion.field-0 in
    record {
      count = ap length items ∙ longer named one c.loop-k.k before.count;
      cited = λ lasting all. rw items
          (All-push (λ n. IsCitedSo lasting n.expression n.hypotheses.items n.pairs.items) named one (before.cited lasting all) (c.in_ok-spelled_assertion.ensures lasting (all c.loop-k.k _ c.loop-k-test.true)));
    }
