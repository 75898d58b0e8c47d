use Rattle.mm_verdict.proofs.StepExampleLemmas.{is_done_and_derived, keeps_view, changes_view, has_typed_variable}
use Rattle.mm_verdict.proofs.examples.steps_are_read_so.Goals as goal

pub returns-clause-done : goal.returns-clause-done
returns-clause-done c = is_done_and_derived

pub returns-clause-kept : goal.returns-clause-kept
returns-clause-kept c = keeps_view

pub returns-clause-changed : goal.returns-clause-changed
returns-clause-changed c = changes_view

pub returns-clause-typed : goal.returns-clause-typed
returns-clause-typed c = has_typed_variable
