use Rattle.std.proofs.Common.{◌≡◌, ◌≤◌, ◌-◌, ℕ, length}
use Rattle.mm_frame.specs.Code.KeptRows.{fault_kept}
use Rattle.mm_frame.proofs.item_rows.fill.Given as goal

abbrev pub invariant-loop-faults : goal.invariant-loop-faults
invariant-loop-faults l = record {
  same : (n : ℕ) → fault_kept l.faults.items n ≡ fault_kept l.initial.faults.items n;
  within : length l.initial.faults.items ≤ l.count → length l.faults.items ≤ l.count;
}

abbrev pub decreases-loop-faults : goal.decreases-loop-faults
decreases-loop-faults l = l.count - l.faults.len
