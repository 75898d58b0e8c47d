use Rattle.std.proofs.Common.{arith}
use Rattle.mm_proof.proofs.view.same_labels.Goals as goal

pub returns-in-Some : goal.returns-in-Some
returns-in-Some c said says base copy f g = grind arith steps 200000

pub returns-in_default : goal.returns-in_default
returns-in_default c said says = rw (c.words_of_proof.ensures.words said says) at c.same_named.ensures
