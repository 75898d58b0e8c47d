use Rattle.std.proofs.Common.{◌≡◌, ◌<◌, ℕ, length}
use Rattle.mm_machine.specs.Language.{Lasting.{HoldsLasting, lasting_of}, NumberedSymbols.{named_symbol}}
use Rattle.mm_verdict.specs.Language.Loaded.{HasItem}
use Rattle.mmtests.specs.Code.Spelled.{key_by_name}
use Rattle.mmtests.proofs.machines.load_spelled.Given as goal

abbrev pub invariant-loop-n : goal.invariant-loop-n
invariant-loop-n l = record {
  holds : HoldsLasting named_symbol key_by_name l.machine;
  items : (j : ℕ) → j < l.n → HasItem l.base (lasting_of named_symbol l.machine) j;
  count : length (lasting_of named_symbol l.machine) ≡ l.count;
}
