use Rattle.std.proofs.Common.{slice_get, ◌∙◌, ap, sym}
use Rattle.mm_frame.proofs.lemmas.base.AnswerLemmas.{carrier_told}
use Rattle.mm_frame.proofs.base.Base.find.Goals as goal

pub returns : goal.returns
returns c base j is =
    let told = carrier_told base c.args.self.now.rows is.1.rows c.args.label.now j in
    let knows = c.self.invariant.labels c.args.label.now j in
    let same = ap (λ a. slice_get a.rows j) c.self.view_is in
    (λ e. told.0 (sym same ∙ knows.0 (sym c.label.ensures ∙ e)), λ k. c.label.ensures ∙ knows.1 (same ∙ told.1 k))
