use Rattle.std.proofs.{Common.{arith}, lemmas.Grind.{common_steps}}
use Rattle.mm_frame.proofs.judge.declared_fault.Goals as goal

pub returns-then-is_label-clause-constant : goal.returns-then-is_label-clause-constant
returns-then-is_label-clause-constant c before item n name h k t r d = grind (arith, common_steps, c.is_label.ensures c.args.names.now before h k, c.name.ensures name t) steps 200000

pub returns-then-is_label-clause-variable : goal.returns-then-is_label-clause-variable
returns-then-is_label-clause-variable c before item n name h k t r d = grind (arith, common_steps, c.is_label.ensures c.args.names.now before h k, c.name.ensures name t) steps 200000

pub returns-else-is_label-clause-constant : goal.returns-else-is_label-clause-constant
returns-else-is_label-clause-constant c before item n name h k t r d = grind (arith, common_steps, c.is_label.ensures c.args.names.now before h k, c.name.ensures name t) steps 200000

pub returns-else-is_label-clause-variable : goal.returns-else-is_label-clause-variable
returns-else-is_label-clause-variable c before item n name h k t r d = grind (arith, common_steps, c.is_label.ensures c.args.names.now before h k, c.name.ensures name t) steps 200000
