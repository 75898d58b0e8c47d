use Rattle.std.proofs.Common.{slice_get, ap, ◌∙◌}
use Rattle.mm_frame.{specs.Code.KeptRows.{is_shown_in}, proofs.lemmas.base.AnswerLemmas.{shown_told}}
use Rattle.mm_frame.proofs.base.Base.is_shown.Goals as goal

pub returns : goal.returns
returns c base is = c.is_shown.ensures ∙ ap (λ a. is_shown_in (slice_get a.rows c.args.i)) c.self.view_is ∙ shown_told base c.args.self.now.rows is.1.rows c.args.i
