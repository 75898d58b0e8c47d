use Rattle.std.proofs.{Common.{arith}, lemmas.Grind.{common_steps}}
use Rattle.mm_statement.proofs.statement.same_proof.Goals as goal

pub returns-then-is_same_range : goal.returns-then-is_same_range
returns-then-is_same_range c said told f g =
    grind (arith, c.is_same_range.ensures.0 c.if-is_same_range.true, c.one_range_says_one.ensures c.args.files.now c.args.one.now c.args.other.now (c.is_same_range.ensures.0 c.if-is_same_range.true) said told f g) steps 200000

pub returns : goal.returns
returns c said told f g = grind (arith, common_steps, c.words_of_proof.ensures.words said f, c.words_of_proof-2.ensures.words told g, c.same_words.ensures.0) steps 200000
