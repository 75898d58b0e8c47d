use Rattle.std.proofs.Common.{◌≡◌, map, take}
use Rattle.mm_machine.specs.Language.NumberedSymbols.{named_symbol, all_by_number}
use Rattle.mmtests.proofs.machines.spelled.Given as goal

abbrev pub invariant-loop-symbol : goal.invariant-loop-symbol
invariant-loop-symbol l = all_by_number (take l.symbol-index l.symbols) ≡ map named_symbol l.named.items
