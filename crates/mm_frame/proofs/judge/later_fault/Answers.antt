use Rattle.std.proofs.{Common.{arith, rules}, lemmas.Grind.{common_steps}}
use Rattle.mm_frame.proofs.judge.later_fault.Goals as goal

pub returns-then-may_follow : goal.returns-then-may_follow
returns-then-may_follow c all before name h k t = let follows = c.may_follow.ensures all before name h k t in search rules

pub returns-then-is_active_variable : goal.returns-then-is_active_variable
returns-then-is_active_variable c all before name h k t = grind (arith, common_steps, c.may_follow.ensures all before name h k t, c.is_active_variable.ensures all before name h k t) steps 200000

pub returns-else-is_active_variable : goal.returns-else-is_active_variable
returns-else-is_active_variable c all before name h k t = grind (arith, common_steps, c.may_follow.ensures all before name h k t, c.is_active_variable.ensures all before name h k t) steps 200000
