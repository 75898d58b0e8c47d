use Rattle.std.proofs.{Common.{arith}, lemmas.Grind.{common_steps}}
use Rattle.mm_frame.proofs.lemmas.pairs.PairListLemmas.{front_numbers, none_last, number_there}
use Rattle.mm_frame.proofs.pair_lists.count_to_last.Goals as goal

pub returns-in-Some : goal.returns-in-Some
returns-in-Some c all before rest a e =
    grind (arith, common_steps, number_there, front_numbers, number_there, c.in-Some.ensures.value, c.count_to.ensures, c.count.ensures) steps 200000

pub returns-in-None : goal.returns-in-None
returns-in-None c all before rest a e = grind (arith, common_steps, none_last) steps 200000
