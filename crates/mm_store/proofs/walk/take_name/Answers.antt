use Rattle.std.proofs.Common.{◌∙◌, ap, map}
use Rattle.mm_store.proofs.lemmas.expansion.SetLemmas.{inserted}
use Rattle.mm_store.proofs.walk.take_name.Goals as goal

pub returns-clause-ok : goal.returns-clause-ok
returns-clause-ok c = ap (map (λ name. name.items)) c.in_ok-insert.ensures.keys ∙ inserted c.args.names.now.keys c.in_ok-name.name c.args.name.now c.in_ok-name.ensures.items c.requires
