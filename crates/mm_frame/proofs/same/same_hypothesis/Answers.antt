use Rattle.std.proofs.{Common.{arith}, lemmas.Grind.{common_steps}}
use Rattle.mm_frame.proofs.same.same_hypothesis.Goals as goal

pub returns-then-is_floating : goal.returns-then-is_floating
returns-then-is_floating c names base copy is are s t =
    grind (arith, common_steps, c.is_floating.ensures base (names, is), c.is_floating-2.ensures copy (names, are), c.same_expression.ensures names base copy is are s t) steps 500000
