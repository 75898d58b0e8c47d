use Rattle.std.proofs.{Common.{arith, get_or-set_other, refl}, lemmas.{Bool.{false≢true}, Grind.{common_steps, get_or-set_at}}}
use Rattle.mm_frame.proofs.lemmas.scope.KnownLemmas.{types_one}
use Rattle.mm_frame.proofs.tables.Tables.type_variable.Goals as goal

pub returns-in-Some-Variable : goal.returns-in-Some-Variable
returns-in-Some-Variable c all variable d t =
    types_one all c.args.self.now _ c.args.name variable c.args.number d t
    (λ m. (grind (arith, common_steps, false≢true, get_or-set_at, get_or-set_other) steps 200000)) refl

pub returns : goal.returns
returns c all variable d t = grind (arith, common_steps, types_one) steps 200000

pub returns-2 : goal.returns-2
returns-2 c all variable d t = grind (arith, common_steps, types_one) steps 200000
