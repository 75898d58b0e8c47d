use Rattle.mm_keep.proofs.AppendingLemmas.{have_findings}
use Rattle.mm_keep.proofs.laws.items_have_findings.Goals as goal

pub returns : goal.returns
returns c = have_findings c.edits_keep_units.ensures.keys c.items_are_located.ensures.kept c.items_stand.ensures.stand c.items_have_labels.ensures.said c.has_verdict_at.ensures c.spots_are_in.ensures
