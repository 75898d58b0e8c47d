use Rattle.std.proofs.Common.{◌≡◌, ◌+◌, ◌++◌, drop}
use Rattle.mm_verdict.specs.Code.Cited.{item_cites, marked_at}
use Rattle.mm_verdict.proofs.citing.cited.Given as goal

abbrev pub invariant-loop-k : goal.invariant-loop-k
invariant-loop-k l = l.words.items ++ item_cites (marked_at l.left.items) (l.from + l.k) (drop l.k l.labels) ≡ item_cites (marked_at l.initial.left.items) l.from l.labels
