use Rattle.std.proofs.Common.{◌≡◌, map, take}
use Rattle.mm_frame.specs.Code.KeptSymbols.{symbol_by}
use Rattle.mm_frame.proofs.symbol.put_symbols.Given as goal

abbrev pub invariant-loop-number : goal.invariant-loop-number
invariant-loop-number l = l.symbols.items ≡ map (symbol_by l.tables) (take l.number-index l.numbers)
