use Rattle.std.proofs.Common.{◌≡◌, take}
use Rattle.mm_frame.specs.Code.KnownItem.{numbers_of}
use Rattle.mm_frame.proofs.older.put_numbers.Given as goal

abbrev pub invariant-loop-symbol : goal.invariant-loop-symbol
invariant-loop-symbol l = l.numbers.items ≡ numbers_of (take l.symbol-index l.symbols)
