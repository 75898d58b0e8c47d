use Rattle.std.{proofs.Common.{◌≡◌, ◌+◌, ◌≤◌, length}, specs.Io.KnownBytes.{Consumes}}
use Rattle.mm_report.specs.mm_script.Language.Stream.{calls_left, unread}
use Rattle.mmkeep.proofs.adding.read_all.Given as goal

abbrev pub invariant-loop-text : goal.invariant-loop-text
invariant-loop-text g l = record {
  come : Consumes (unread g.R.Read.remaining l.initial.reading) (unread g.R.Read.remaining l.reading) l.text.items;
  few : calls_left l.initial.reading ≤ calls_left l.reading + length l.text.items;
  chunk : length l.chunk ≡ 16384;
}

abbrev pub decreases-loop-text : goal.decreases-loop-text
decreases-loop-text g l = calls_left l.reading
