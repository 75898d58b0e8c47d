use Rattle.mm_theory.proofs.ExampleLemmas.{pairs_are_needed, dummies_are_needed, dummies_are_paired, axiom_is_used, axioms_are_needed, replaced_at_once, variables_are_typed}
use Rattle.mm_theory.proofs.examples.systems_are_read_so.Goals as goal

pub returns-clause-pairs : goal.returns-clause-pairs
returns-clause-pairs c = pairs_are_needed

pub returns-clause-dummies : goal.returns-clause-dummies
returns-clause-dummies c = dummies_are_needed

pub returns-clause-paired : goal.returns-clause-paired
returns-clause-paired c = dummies_are_paired

pub returns-clause-axioms : goal.returns-clause-axioms
returns-clause-axioms c = axioms_are_needed

pub returns-clause-at_once : goal.returns-clause-at_once
returns-clause-at_once c = replaced_at_once

pub returns-clause-typed : goal.returns-clause-typed
returns-clause-typed c = variables_are_typed

pub returns-clause-used : goal.returns-clause-used
returns-clause-used c = axiom_is_used
