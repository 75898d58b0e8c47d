use Rattle.std.proofs.{Common.{◌∙◌, sym}, lemmas.Option.{none-some}}
use Rattle.mm_frame.proofs.lemmas.base.ResolvingLemmas.{unknown_means}
use Rattle.mm_frame.proofs.base.Base.resolve.Goals as goal

pub returns-in-Some : goal.returns-in-Some
returns-in-Some c base is = c.meaning.ensures base c.args.label.now is ((c.find.ensures base c.in-Some.j is).0 c.in-Some.is)

pub returns-in-None : goal.returns-in-None
returns-in-None c base is = unknown_means base c.args.i c.args.label.now (λ j k. none-some j (sym c.in-None.is ∙ (c.find.ensures base j is).1 k))
