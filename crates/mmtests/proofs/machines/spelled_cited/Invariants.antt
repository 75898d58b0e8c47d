use Rattle.std.proofs.Common.{◌≡◌, List, length, All}
use Rattle.mm_machine.specs.Language.{Frame.{Mandatory}, Lasting.{IsCited}, NumberedSymbols.{by_number}}
use Rattle.mmtests.specs.Code.SpelledAssertions.{IsCitedSo}
use Rattle.mmtests.proofs.machines.spelled_cited.Given as goal

abbrev pub invariant-loop-k : goal.invariant-loop-k
invariant-loop-k l = record {
  count : length l.named.items ≡ l.k;
  cited : (lasting : List Mandatory) → All (IsCited by_number lasting) l.cited → All (λ n. IsCitedSo lasting n.expression n.hypotheses.items n.pairs.items) l.named.items;
}
