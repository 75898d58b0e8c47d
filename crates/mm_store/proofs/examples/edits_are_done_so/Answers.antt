use Rattle.mm_store.proofs.EditExampleLemmas.{edits_are_seen, edits_are_done, edits_are_refused, edits_are_not_done, batch_is_done, batch_is_refused}
use Rattle.mm_store.proofs.examples.edits_are_done_so.Goals as goal

pub returns-clause-seen : goal.returns-clause-seen
returns-clause-seen c = edits_are_seen

pub returns-clause-done : goal.returns-clause-done
returns-clause-done c = edits_are_done

pub returns-clause-refused : goal.returns-clause-refused
returns-clause-refused c = edits_are_refused

pub returns-clause-not_done : goal.returns-clause-not_done
returns-clause-not_done c = edits_are_not_done c.one_cut.ensures.cut

pub returns-clause-together : goal.returns-clause-together
returns-clause-together c = batch_is_done

pub returns-clause-refused_together : goal.returns-clause-refused_together
returns-clause-refused_together c = batch_is_refused
