use Rattle.std.proofs.Common.{◌≡◌, ℕ, true, take}
use Rattle.mm_verdict.specs.Code.Cited.{is_listed, marked_at, masked}
use Rattle.mm_verdict.proofs.citing.named.Given as goal

abbrev pub invariant-loop-k : goal.invariant-loop-k
invariant-loop-k l = (j : ℕ) → is_listed l.labels j ≡ true → marked_at l.marks.items j ≡ is_listed (take l.k (masked l.labels l.used)) j
