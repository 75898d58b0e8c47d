use Rattle.std.proofs.Common.{◌≡◌, ◌≤◌, ◌-◌, map, take, drop}
use Rattle.mm_machine.specs.Language.NumberedSymbols.{by_code}
use Rattle.mm_machine.proofs.kept.CodedSymbolKept.are_same.Given as goal

abbrev pub invariant-loop-n : goal.invariant-loop-n
invariant-loop-n l = record {
  within : l.n ≤ l.len;
  so_far : take l.n (drop l.at (map by_code l.one)) ≡ take l.n (drop l.from (map by_code l.other));
}

abbrev pub decreases-loop-n : goal.decreases-loop-n
decreases-loop-n l = l.len - l.n
