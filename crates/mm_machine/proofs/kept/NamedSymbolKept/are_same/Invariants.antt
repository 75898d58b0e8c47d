use Rattle.std.proofs.Common.{◌≡◌, map, take, drop}
use Rattle.mm_machine.specs.Language.NumberedSymbols.{named_symbol}
use Rattle.mm_machine.proofs.kept.NamedSymbolKept.are_same.Given as goal

abbrev pub invariant-loop-n : goal.invariant-loop-n
invariant-loop-n l = take l.n (drop l.at (map named_symbol l.one)) ≡ take l.n (drop l.from (map named_symbol l.other))
