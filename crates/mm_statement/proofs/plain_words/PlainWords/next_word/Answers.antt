use Rattle.std.proofs.{Common.{rules, arith}, lemmas.Grind.{common_steps}}
use Rattle.mm_statement.proofs.SpokenLemmas.{few_more, proof_more}
use Rattle.mm_statement.proofs.plain_words.PlainWords.next_word.Goals as goal

pub returns : goal.returns
returns c = grind (arith, common_steps, proof_more) steps 200000

pub invariant_of-self : goal.invariant_of-self
invariant_of-self c = search (rules, few_more, proof_more)
