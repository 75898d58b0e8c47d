use Rattle.std.proofs.Common.{◌≡◌}
use Rattle.mm_store.proofs.files.Files.restart_all.Given as goal

abbrev pub invariant-loop-number : goal.invariant-loop-number
invariant-loop-number l = l.self ≡ l.fn.self
