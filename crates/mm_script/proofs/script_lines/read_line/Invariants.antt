use Rattle.std.proofs.Common.{◌≤◌, length, slice_range}
use Rattle.mm_script.specs.{Code.{Growing.{InputGrows}, Stops.{IsOneLine}}, Language.Commands.{to_come, pending}}
use Rattle.mm_script.proofs.script_lines.read_line.Given as goal

abbrev pub invariant-loop-more : goal.invariant-loop-more
invariant-loop-more g l = record {
  grows : InputGrows l.initial.input l.input (g.R.Read.remaining l.initial.reading.inner) (g.R.Read.remaining l.reading.inner);
  ordered : l.start ≤ l.end;
  within : l.end ≤ length (pending l.input);
  none : IsOneLine (slice_range (pending l.input) l.start l.end);
  fewer : to_come l.input l.reading ≤ to_come l.initial.input l.initial.reading;
}

abbrev pub decreases-loop-more : goal.decreases-loop-more
decreases-loop-more g l = to_come l.input l.reading
