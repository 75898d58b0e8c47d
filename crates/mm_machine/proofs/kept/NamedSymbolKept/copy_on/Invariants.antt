use Rattle.std.proofs.Common.{◌≡◌, ◌+◌, ◌++◌, map, take, drop}
use Rattle.mm_machine.specs.Language.NumberedSymbols.{named_symbol}
use Rattle.mm_machine.proofs.kept.NamedSymbolKept.copy_on.Given as goal

abbrev pub invariant-loop-n : goal.invariant-loop-n
invariant-loop-n l =
    take (l.to + l.n) (map named_symbol l.all) ≡ take l.to (map named_symbol l.initial.all) ++ take l.n (drop l.from (map named_symbol l.initial.all))
