use Rattle.std.proofs.Common.{◌≤◌}
use Rattle.mm_frame.proofs.partners.places_if_many.Given as goal

abbrev pub invariant-loop-variable : goal.invariant-loop-variable
invariant-loop-variable l = l.count ≤ l.variable-index
