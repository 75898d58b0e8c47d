use Rattle.std.proofs.Common.{slice_get, ap, ◌∙◌}
use Rattle.mm_frame.{specs.Code.KeptRows.{row_fault}, proofs.lemmas.base.AnswerLemmas.{fault_told_at}}
use Rattle.mm_frame.proofs.base.Base.fault.Goals as goal

pub returns : goal.returns
returns c base is = c.fault.ensures ∙ ap (λ a. row_fault (slice_get a.rows c.args.i)) c.self.view_is ∙ fault_told_at base c.args.self.now.rows is.1.rows c.args.i
