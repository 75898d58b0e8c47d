use Rattle.std.proofs.Common.{◌≡◌, take, All}
use Rattle.mm_machine.specs.Language.{NumberedSymbols.{by_number, named_symbol}, CodeLists.{meant_pairs}}
use Rattle.mmtests.specs.Code.Spelled.{HasOneKey}
use Rattle.mmtests.proofs.machines.spelled_pairs.Given as goal

abbrev pub invariant-loop-pair : goal.invariant-loop-pair
invariant-loop-pair l = record {
  means : meant_pairs by_number (take l.pair-index l.pairs) ≡ meant_pairs named_symbol l.named.items;
  keys : All (λ pair. HasOneKey (named_symbol pair.0) × HasOneKey (named_symbol pair.1)) l.named.items;
}
