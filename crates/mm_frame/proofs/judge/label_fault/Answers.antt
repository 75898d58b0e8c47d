use Rattle.std.proofs.{Common.{arith, rules}, lemmas.Grind.{common_steps}}
use Rattle.mm_frame.proofs.judge.label_fault.Goals as goal

pub returns-then-is_label : goal.returns-then-is_label
returns-then-is_label c before h k = let label = c.is_label.ensures c.args.names.now before h k in search rules

pub returns-then-is_symbol : goal.returns-then-is_symbol
returns-then-is_symbol c before h k = grind (arith, common_steps, c.is_label.ensures c.args.names.now before h k, c.is_symbol.ensures before h k) steps 200000

pub returns-else-is_symbol : goal.returns-else-is_symbol
returns-else-is_symbol c before h k = grind (arith, common_steps, c.is_label.ensures c.args.names.now before h k, c.is_symbol.ensures before h k) steps 200000
