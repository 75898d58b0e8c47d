use Rattle.std.proofs.Common.{slice_get, ap, ◌∙◌}
use Rattle.mm_frame.{specs.Code.KeptRows.{row_label}, proofs.lemmas.base.AnswerLemmas.{label_told}}
use Rattle.mm_frame.proofs.base.Base.label.Goals as goal

pub returns : goal.returns
returns c base is = c.label.ensures ∙ ap (λ a. row_label (slice_get a.rows c.args.i)) c.self.view_is ∙ label_told base c.args.self.now.rows is.1.rows c.args.i
