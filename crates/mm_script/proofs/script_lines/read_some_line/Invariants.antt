use Rattle.std.proofs.Common.{◌≤◌, ◌-◌}
use Rattle.mm_script.specs.{Code.Growing.{InputGrows, HasBlanks}, Language.Commands.{to_come, pending}}
use Rattle.mm_script.proofs.script_lines.read_some_line.Given as goal

abbrev pub invariant-loop-line : goal.invariant-loop-line
invariant-loop-line g l = record {
  grows : InputGrows l.initial.input l.input (g.R.Read.remaining l.initial.reading.inner) (g.R.Read.remaining l.reading.inner);
  blanks : HasBlanks (pending l.input) l.from l.start;
  fewer : to_come l.input l.reading ≤ to_come l.initial.input l.initial.reading;
}

abbrev pub decreases-loop-line : goal.decreases-loop-line
decreases-loop-line g l = to_come l.input l.reading - l.start
