use Rattle.std.proofs.{Common.{arith}, lemmas.Grind.{common_steps}}
use Rattle.mm_frame.proofs.lemmas.scope.{TableLemmas.{active_variable_last}, KeptScopeLemmas.{active_by_marks}}
use Rattle.mm_frame.proofs.scope.Scope.is_active_variable.Goals as goal

pub returns-in-Some : goal.returns-in-Some
returns-in-Some c all before name h k t = grind (arith, common_steps, active_by_marks, active_variable_last) steps 200000

pub returns-in-None : goal.returns-in-None
returns-in-None c all before name h k t = grind (arith, common_steps, c.variable.ensures all before name h k.knows t, active_variable_last before h name) steps 200000
