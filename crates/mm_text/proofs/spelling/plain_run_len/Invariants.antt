use Rattle.std.proofs.Common.{◌≡◌, ◌<◌, ◌≤◌, ◌-◌, ℕ, true, length, get_or}
use Rattle.mm_text.specs.Code.LeftToRight.{is_dollarless}
use Rattle.mm_text.proofs.spelling.plain_run_len.Given as goal

abbrev pub invariant-loop-n : goal.invariant-loop-n
invariant-loop-n l = record {
  within : l.n ≤ length l.bytes;
  plain : (k : ℕ) → k < l.n → is_dollarless (get_or l.bytes k 0) ≡ true;
}

abbrev pub decreases-loop-n : goal.decreases-loop-n
decreases-loop-n l = length l.bytes - l.n
