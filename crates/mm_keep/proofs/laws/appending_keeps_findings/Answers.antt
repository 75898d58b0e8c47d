use Rattle.std.proofs.{Common.{arith}, lemmas.Grind.{common_steps}}
use Rattle.mm_keep.proofs.{AppendingLemmas.{AppendingLaws, Laws, findings_stay}, laws.appending_keeps_findings.Goals.{After-appending_keeps_items}}
use Rattle.mm_keep.proofs.laws.appending_keeps_findings.Goals as goal

laws : After-appending_keeps_items → Laws
laws c = grind (arith, common_steps) steps 200000

appending : After-appending_keeps_items → AppendingLaws
appending c = record { items = c.appending_keeps_items.ensures.items; files = c.appending_keeps_items.ensures.files }

pub returns : goal.returns
returns c = findings_stay (laws c) c.files_have_one_database.ensures (appending c)
