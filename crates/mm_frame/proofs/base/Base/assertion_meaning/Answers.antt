use Rattle.mm_frame.proofs.lemmas.base.ResolvingLemmas.{assertion_means, later_means}
use Rattle.mm_frame.proofs.base.Base.assertion_meaning.Goals as goal

pub returns-then-j-i : goal.returns-then-j-i
returns-then-j-i c base label is e framed = assertion_means base c.args.i label c.args.j e c.if-j-i.true framed

pub returns-else-j-i : goal.returns-else-j-i
returns-else-j-i c base label is e framed = later_means base c.args.i label c.args.j e c.if-j-i.false
