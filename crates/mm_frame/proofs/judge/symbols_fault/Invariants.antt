use Rattle.std.proofs.Common.{◌≡◌, true, take}
use Rattle.mm_frame.{specs.Code.SeenNumbers.{HasSeen}, proofs.lemmas.faults.FaultLemmas.{Passes}}
use Rattle.mm_frame.proofs.judge.symbols_fault.Given as goal

abbrev pub invariant-loop-n : goal.invariant-loop-n
invariant-loop-n l = (l.kept ≡ true → HasSeen (take l.n l.numbers) l.seen) × Passes l.names l.scope l.statement l.numbers l.n
