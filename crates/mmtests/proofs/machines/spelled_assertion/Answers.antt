use Rattle.std.proofs.Common.{refl}
use Rattle.mmtests.proofs.SpelledLemmas.{cited_by_name}
use Rattle.mmtests.proofs.machines.spelled_assertion.Goals as goal

pub returns : goal.returns
returns c lasting is =
    cited_by_name lasting c.args.cited.now c.args.cited.now.expression c.in_ok-from_slice.field-0.items c.in_ok-spelled_pairs.field-0.items
    refl c.in_ok-from_slice.ensures.items c.in_ok-spelled_pairs.ensures.means is
