use Rattle.std.proofs.Common.{◌≡◌, ◌-◌, ◌≤◌, false, length}
use Rattle.mm_script.specs.{Code.{Batches.{IsBatchRead}, Growing.{InputGrows}}, Language.Commands.{to_come, pending}}
use Rattle.mm_script.proofs.edits.read_batch.Given as goal

abbrev pub invariant-loop-input : goal.invariant-loop-input
invariant-loop-input g l = record {
  grows : InputGrows l.initial.input l.input (g.R.Read.remaining l.initial.reading.inner) (g.R.Read.remaining l.reading.inner);
  read : IsBatchRead (pending l.input) (g.R.Read.remaining l.reading.inner) l.count l.edits.items l.end l.fed;
  last : l.fed ≡ false → length l.edits.items ≡ l.count;
  most : length l.edits.items ≤ l.count;
  fewer : to_come l.input l.reading ≤ to_come l.initial.input l.initial.reading;
}

abbrev pub decreases-loop-input : goal.decreases-loop-input
decreases-loop-input g l = l.count - length l.edits.items
