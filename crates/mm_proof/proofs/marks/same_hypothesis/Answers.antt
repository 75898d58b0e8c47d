use Rattle.std.proofs.{Common.{arith}, lemmas.Bool.{false≢true}}
use Rattle.mm_proof.proofs.marks.same_hypothesis.Goals.{then-is_none, else-is_none, then-is_none-2, else-is_none-2}
use Rattle.mm_proof.proofs.marks.same_hypothesis.Goals as goal

pub returns-then-is_floating : goal.returns-then-is_floating
returns-then-is_floating c t names base copy f g s r =
    grind (arith, c.same_expression.ensures names base copy f g s r, c.frame.ensures.some base (names, f), then-is_none-2, then-is_none, else-is_none, false≢true, else-is_none-2) steps 200000
