use Rattle.mm_proof.proofs.MeaningLemmas.{none_means}
use Rattle.mm_proof.proofs.view.meaning_of.Goals as goal

pub returns-in-None : goal.returns-in-None
returns-in-None c view label is carries framed = none_means view label (rw c.in-None.is at carries) c.kept_next.ensures c.args.i
