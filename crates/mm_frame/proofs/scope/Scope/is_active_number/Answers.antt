use Rattle.std.proofs.Common.{◌∙◌}
use Rattle.mm_frame.proofs.lemmas.scope.KeptScopeLemmas.{active_by_marks}
use Rattle.mm_frame.proofs.scope.Scope.is_active_number.Goals as goal

pub returns-in-Some : goal.returns-in-Some
returns-in-Some c all before k = c.is_active_now.ensures ∙ active_by_marks before c.args.self.now.blocks c.args.number c.in-Some.number k.marks c.in-Some.is
