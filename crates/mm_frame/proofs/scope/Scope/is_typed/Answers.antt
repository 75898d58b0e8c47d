use Rattle.std.proofs.{Common.{arith}, lemmas.Grind.{common_steps}}
use Rattle.mm_frame.proofs.lemmas.scope.{TableLemmas.{typed_last}, KeptScopeLemmas.{active_by_marks}}
use Rattle.mm_frame.proofs.scope.Scope.is_typed.Goals as goal

pub returns-in-Some : goal.returns-in-Some
returns-in-Some c all before name h k t = grind (arith, common_steps, active_by_marks, typed_last) steps 200000

pub returns-in-None : goal.returns-in-None
returns-in-None c all before name h k t = grind (arith, common_steps, c.float.ensures all before name h k t, typed_last before h name) steps 200000
