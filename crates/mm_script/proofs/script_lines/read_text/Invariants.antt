use Rattle.std.proofs.Common.{◌≤◌}
use Rattle.mm_script.specs.{Code.Growing.{InputGrows}, Language.Commands.{to_come}}
use Rattle.mm_script.proofs.script_lines.read_text.Given as goal

abbrev pub invariant-loop-byte : goal.invariant-loop-byte
invariant-loop-byte g l = record {
  grows : InputGrows l.initial.input l.input (g.R.Read.remaining l.initial.reading.inner) (g.R.Read.remaining l.reading.inner);
  fewer : to_come l.input l.reading ≤ to_come l.initial.input l.initial.reading;
}

abbrev pub decreases-loop-byte : goal.decreases-loop-byte
decreases-loop-byte g l = to_come l.input l.reading
