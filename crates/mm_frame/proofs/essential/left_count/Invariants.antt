use Rattle.std.proofs.Common.{ℕ, ◌<◌, ◌≤◌, length, drop, Contains}
use Rattle.mm_frame.specs.{declared.essential.EssentialVariable.{EssentialVariable}, Code.LastItems.{IsRising}}
use Rattle.mm_frame.proofs.essential.left_count.Given as goal

abbrev pub invariant-loop-count : goal.invariant-loop-count
invariant-loop-count l = record {
  within : l.count ≤ length l.found;
  dropped : IsRising l.essentials → (v : EssentialVariable) → Contains (drop l.count l.found) v → (n : ℕ) → Contains l.essentials n → n < v.number;
}

abbrev pub decreases-loop-count : goal.decreases-loop-count
decreases-loop-count l = l.count
