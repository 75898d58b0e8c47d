use Rattle.mm_statement.proofs.PieceLemmas.{same_said}
use Rattle.mm_statement.proofs.laws.one_range_says_one.Goals as goal

pub returns : goal.returns
returns c files x y one said told f g = same_said files x y one c.one_meaning.ensures.words said told f g
