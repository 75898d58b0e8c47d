use Rattle.std.proofs.Common.{◌≡◌, List, length, All}
use Rattle.mm_machine.specs.Language.{Frame.{Mandatory}, Lasting.{IsCited}, NumberedSymbols.{named_symbol}}
use Rattle.mmtests.specs.Code.SpelledAssertions.{IsCitedSo}
use Rattle.mmtests.proofs.machines.lent_cited.Given as goal

abbrev pub invariant-loop-k : goal.invariant-loop-k
invariant-loop-k l = record {
  count : length l.lent.items ≡ l.k;
  cited : (lasting : List Mandatory) → All (λ n. IsCitedSo lasting n.expression n.hypotheses.items n.pairs.items) l.named → All (IsCited named_symbol lasting) l.lent.items;
}
