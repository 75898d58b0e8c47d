use Rattle.std.proofs.Common.{sym, ◌∙◌, ap, is_some}
use Rattle.mm_frame.proofs.lemmas.scope.TableLemmas.{label_last}
use Rattle.mm_frame.proofs.tables.Tables.is_label.Goals as goal

pub returns : goal.returns
returns c all before k = c.is_some.ensures ∙ ap is_some (c.label.ensures ∙ k.labels c.args.label.now) ∙ sym (label_last before c.args.label.now)
