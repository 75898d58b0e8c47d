use Rattle.std.proofs.Common.{sym, ◌∙◌, ap}
use Rattle.mm_frame.{specs.Code.BlockMarks.{is_inside_by}, proofs.lemmas.scope.Stack.{inside_by}}
use Rattle.mm_frame.proofs.scope.Scope.is_inside.Goals as goal

pub returns : goal.returns
returns c all before h k = c.is_inside.ensures ∙ ap is_inside_by k.marks ∙ sym (inside_by before)
