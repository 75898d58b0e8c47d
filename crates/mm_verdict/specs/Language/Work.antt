-- What is recorded of the runs of proofs, and what a check answers.
use Rattle.std.specs.Prelude.{ℕ, List}
use Rattle.mm_machine.specs.declared.Verdict.{Verdict}

-- The items whose proofs were run, in order; the steps that were done in all; and how many more runs there is room for.
pub record Recorded : Type 0 where
  pub runs : List ℕ
  pub steps : ℕ
  pub room : ℕ

-- The verdict on a proof, and the numbers of the words that cite, rising.
pub record Judgement : Type 0 where
  pub verdict : Verdict
  pub cites : List ℕ
