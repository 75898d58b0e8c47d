use Rattle.std.proofs.{Common.{rules, arith}, lemmas.{Grind.{common_steps}, Slice.Eq.{slice_eq-Decides}}}
use Rattle.mm_frame.proofs.lemmas.frames.SameLemmas.{both_decide}
use Rattle.mm_frame.proofs.symbol.same_pairs.Goals as goal

pub returns : goal.returns
returns c =
    search (rules, both_decide, slice_eq-Decides (λ a b. (grind (arith, common_steps, both_decide, both_decide) steps 200000)) c.args.one.now c.args.other.now c.eq.result c.eq.ensures)
