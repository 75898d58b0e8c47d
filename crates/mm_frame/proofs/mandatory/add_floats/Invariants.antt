use Rattle.std.proofs.Common.{◌≡◌, ◌++◌, take}
use Rattle.mm_frame.specs.Code.KeptSymbols.{float_numbers}
use Rattle.mm_frame.proofs.mandatory.add_floats.Given as goal

abbrev pub invariant-loop-symbol : goal.invariant-loop-symbol
invariant-loop-symbol l = l.numbers.items ≡ l.initial.numbers.items ++ float_numbers l.tables (take l.symbol-index l.symbols)
