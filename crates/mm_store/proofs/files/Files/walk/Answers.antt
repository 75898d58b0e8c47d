use Rattle.std.proofs.{Common.{arith, ap}, lemmas.Result.{IfOk-weaker}}
use Rattle.mm_store.{specs.Language.Walking.{WalkView}, proofs.lemmas.{expansion.{BareLemmas.{hold_bare, number_bare}, WalkStepLemmas.{walk_begins}}, files.ViewLemmas.{number_plain}}}
use Rattle.mm_store.proofs.files.Files.walk.Goals as goal

pub returns-clause-ok : goal.returns-clause-ok
returns-clause-ok c = grind (arith, hold_bare c.args.self.now c.hold_units.ensures, number_bare c.args.self.now c.args.top.now, number_plain c.args.self.now c.args.top.now, walk_begins) steps 200000

pub returns-clause-first : goal.returns-clause-first
returns-clause-first c = IfOk-weaker c.walk_from_top.result _ _ (λ walk h. ap (λ (walk : WalkView). walk.names) h.2) c.walk_from_top.ensures.ok

pub returns-clause-untold : goal.returns-clause-untold
returns-clause-untold c = IfOk-weaker c.walk_from_top.result _ _ (λ walk h. ap (λ (walk : WalkView). walk.told) h.2) c.walk_from_top.ensures.ok
