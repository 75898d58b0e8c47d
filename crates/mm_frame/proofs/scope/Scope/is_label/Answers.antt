use Rattle.mm_frame.proofs.scope.Scope.is_label.Goals as goal

pub returns : goal.returns
returns c all before h k = c.is_label.ensures all before k.knows
