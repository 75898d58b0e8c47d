use Rattle.std.proofs.{Common.{arith}, lemmas.Grind.{common_steps}}
use Rattle.mm_store.proofs.lemmas.{edits.StepLemmas.{parked, replaced_weight}, files.{ListLemmas.{plain_same}, EntryLemmas.{same_view}, KeptLemmas.{kept_beside}}}
use Rattle.mm_store.proofs.lemmas.{files.PieceLemmas.{stands_settled, text_drop_other}, expansion.WeightLemmas.{weight_dropped}}
use Rattle.mm_store.proofs.files.Files.drop_replaced.Goals as goal

pub invariant_of-self : goal.invariant_of-self
invariant_of-self c =
    grind (arith, common_steps, kept_beside, parked, plain_same, replaced_weight, stands_settled, text_drop_other, weight_dropped) steps 200000

pub returns : goal.returns
returns c = grind (arith, common_steps, same_view) steps 200000
