use Rattle.std.{proofs.Common.{ℕ, length, min, take, ◌+◌, ◌-◌, ◌≡◌, ◌<◌, ◌≤◌, false}, specs.Io.KnownBytes.{Appends}}
use Rattle.mm_script.proofs.stream.Writing.write_all.Given as goal

abbrev pub invariant-loop-at : goal.invariant-loop-at
invariant-loop-at g l = record {
  in_range : l.at ≤ length l.bytes;
  was_sound : l.initial.self.failed ≡ false;
  sound : l.self.failed ≡ false;
  out : Appends (g.W.Write.contents l.initial.self.inner) (g.W.Write.contents l.self.inner) (take l.at l.bytes);
  counted : (calls : ℕ) × (min l.self.calls 18446744073709551615 ≡ min (min l.initial.self.calls 18446744073709551615 + calls) 18446744073709551615) × (calls ≤ l.at) × (0 < l.at → 0 < calls);
}

abbrev pub decreases-loop-at : goal.decreases-loop-at
decreases-loop-at g l = length l.bytes - l.at
