use Rattle.std.proofs.{Common.{arith}, lemmas.Grind.{common_steps}}
use Rattle.mm_report.specs.mm_store.Language.FilesView.{plain}
use Rattle.mmkeep.proofs.LoadLemmas.{stops_file, takes_file}
use Rattle.mmkeep.proofs.loading.take_included.Goals as goal

pub returns-clause-taken : goal.returns-clause-taken
returns-clause-taken g c = grind (arith, common_steps, takes_file) steps 200000

pub returns-clause-refused : goal.returns-clause-refused
returns-clause-refused g c =
    grind (arith, common_steps, stops_file _ _ (plain c.args.files.now) _ c.open.result c.add_included.result c.open.ensures c.add_included.ensures.refused) steps 200000
