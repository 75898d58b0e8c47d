use Rattle.std.proofs.Common.{◌∙◌, ap, is_some}
use Rattle.mm_frame.proofs.lemmas.scope.KnownLemmas.{known_at, is_declared_in}
use Rattle.mm_frame.proofs.tables.Tables.is_declared.Goals as goal

pub returns : goal.returns
returns c all before name k t = c.is_some.ensures ∙ ap is_some (c.name.ensures ∙ known_at all before c.args.self.now c.args.number name k t) ∙ is_declared_in before name
