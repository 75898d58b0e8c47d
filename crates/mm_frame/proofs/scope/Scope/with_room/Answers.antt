use Rattle.std.proofs.{Common.{arith, ap, length}, lemmas.Grind.{common_steps}}
use Rattle.mm_frame.proofs.scope.Scope.with_room.Goals as goal

pub returns : goal.returns
returns c all distinct = record {
  knows = c.in_ok-tables.ensures all distinct;
  marks = c.in_ok-blocks.ensures;
  types = record { count = ap length c.in_ok-typecodes.ensures.items; each = λ i item there float. grind (arith, common_steps) steps 200000 };
}
