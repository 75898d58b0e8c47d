use Rattle.std.proofs.Common.{◌≡◌, ℕ, ◌+◌, ◌*◌, ◌<◌, length, take, get_or}
use Rattle.mm_store.specs.{declared.line_feeds.Lines.{Lines}, Code.Lines.{AreLines}}
use Rattle.mm_store.proofs.line_feeds.marks.Given as goal

abbrev pub invariant-loop-number : goal.invariant-loop-number
invariant-loop-number l = record {
  lines : AreLines (take (l.number * 1024) l.text) l.lines;
  many : length l.marks.items ≡ l.number;
  each : (k : ℕ) (d : Lines) → k < l.number → AreLines (take ((k + 1) * 1024) l.text) (get_or l.marks.items k d);
}
