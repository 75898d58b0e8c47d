use Rattle.std.proofs.Common.{arith}
use Rattle.mm_store.proofs.lemmas.edits.EditLawLemmas.{insert_parts, replace_parts, delete_parts, down_parts, up_parts}
use Rattle.mm_store.proofs.laws.edits_keep_members.Goals as goal

pub returns : goal.returns
returns c = grind (arith, insert_parts, replace_parts, delete_parts, down_parts, up_parts) steps 200000
