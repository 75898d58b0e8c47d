use Rattle.std.proofs.{Common.{arith}, lemmas.Grind.{common_steps}}
use Rattle.mm_frame.proofs.lemmas.names.Codes.{code_fits}
use Rattle.mm_frame.proofs.codes.code_of.Goals as goal

pub overflow_mul-code : goal.overflow_mul-code
overflow_mul-code c = grind (arith, common_steps, code_fits) steps 200000

pub overflow_add-code : goal.overflow_add-code
overflow_add-code c = grind (arith, common_steps, code_fits) steps 200000
