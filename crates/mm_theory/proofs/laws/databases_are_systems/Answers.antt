use Rattle.mm_theory.proofs.{Supply.{is_system}, Statements.{statement}}
use Rattle.mm_theory.proofs.laws.databases_are_systems.Goals as goal

pub returns-clause-systems : goal.returns-clause-systems
returns-clause-systems c = is_system

pub returns-clause-statements : goal.returns-clause-statements
returns-clause-statements c = λ base axioms i framed. statement (record {
  stand = c.sound_items_stand.ensures;
  read = c.floats_are_typings.ensures;
  agree = c.floats_agree.ensures;
  typed = c.assertions_have_frames.ensures.floats;
  mandatory = c.mandatory_stand_before.ensures;
}) base i axioms framed
