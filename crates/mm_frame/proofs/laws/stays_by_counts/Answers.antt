use Rattle.mm_frame.proofs.lemmas.scope.Stack.{stays_by_counts}
use Rattle.mm_frame.proofs.laws.stays_by_counts.Goals as goal

pub returns : goal.returns
returns c = stays_by_counts
