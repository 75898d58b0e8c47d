-- What the code keeps of the pairs of variables that were looked up.
use Rattle.std.specs.Prelude.{◌≡◌, ℕ, ◌<◌, ◌≤◌, true, Option, Some, List, length}
use Rattle.std.specs.HashMap.{get}
use Rattle.mm_frame.specs.declared.pair_answers.PairAnswer.{PairAnswer}
use Rattle.mm_frame.specs.declared.pair_answers.PairAnswers.{PairAnswers}
use Rattle.mm_frame.specs.declared.disjoint_rows.DisjointRows.{DisjointRows}
use Rattle.mm_statement.specs.Language.Item.{Said}
use Rattle.mm_frame.specs.Language.{Marks.{Mark}, Answering.{same_numbers}}
use Rattle.mm_frame.specs.Code.LastItems.{is_active_at}
use Rattle.mm_frame.specs.Code.Numbers.{IsNameNumber}
use Rattle.mm_frame.specs.Code.KeptDisjointRows.{IsDisjointAt, ReadsPairs}

-- an active `$d` that has both names and was looked at: the first that was found is active, and comes no later
pub record IsFoundBefore (before : List Said) (common : Option ℕ) (n : ℕ) : Type 0 where
  pub first : ℕ
  pub found : common ≡ Some first
  pub least : first ≤ n
  pub active : is_active_at before first ≡ true

-- the active `$d` with both names among the first items were looked at, and what was found is a `$d` that has both names
pub record IsPairAnswer (before : List Said) (x y : List ℕ) (below : ℕ) (common : Option ℕ) : Type 0 where
  pub within : below ≤ length before
  pub cover : (n : ℕ) → n < below → IsDisjointAt before x n → IsDisjointAt before y n → is_active_at before n ≡ true → IsFoundBefore before common n
  pub there : (f : ℕ) → common ≡ Some f → IsDisjointAt before x f × IsDisjointAt before y f

-- an answer is right of the names that have these two numbers
abbrev pub IsKnownPair : List (List ℕ) → List Said → ℕ × ℕ → PairAnswer → Type 0
IsKnownPair all before both answer = (x y : List ℕ) → IsNameNumber all both.0 x → IsNameNumber all both.1 y
    → IsPairAnswer before x y answer.below answer.common

-- each answer is right
abbrev pub KnowsAnswers : List (List ℕ) → List Said → PairAnswers → Type 0
KnowsAnswers all before answers =
    (both : ℕ × ℕ) (answer : PairAnswer) → get same_numbers answers.by_names both ≡ Some answer → IsKnownPair all before both answer

-- if the answers were right, they are right after more of them
abbrev pub KeepsAnswers : DisjointRows → List Mark → PairAnswers → PairAnswers → Type 0
KeepsAnswers table blocks old new =
    (all : List (List ℕ)) (before : List Said) → ReadsPairs all before table blocks → KnowsAnswers all before old → KnowsAnswers all before new
