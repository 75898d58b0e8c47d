-- Which steps of a proof are run: those before the first unknown one; and how many of them are done.
use Rattle.std.specs.Prelude.{◌≡◌, ℕ, ◌+◌, ◌⊎◌, List, [], ◌∷◌, length}
use Rattle.mm_machine.specs.Language.Frame.{Symbol, Setting}
use Rattle.mm_machine.specs.Language.Expansion.{Step, NotKnown}
use Rattle.mm_machine.specs.Language.Reaches.{Reaches, IsStepFault}
use Rattle.mm_machine.specs.declared.ProofNumber.{ProofNumber}

-- the steps that are run: those before the first unknown one, or all
-- In words: `parts_are_run`: They are all the steps exactly if none is a `?`. Else they are those before the first `?`, so it has the number of
-- the steps that are run.
abbrev pub run_part : List Step → List Step
run_part [] = []
run_part (NotKnown ∷ steps) = []
run_part (step ∷ steps) = step ∷ run_part steps

-- the steps that are run reach something: none of them is at fault
abbrev pub IsReached : Setting → List Step → Type 0
IsReached place steps = (stack : List (List Symbol)) × Reaches place (run_part steps) stack

-- this many steps are done: up to and with the one at fault, or all that are run
abbrev pub AreDone : Setting → List Step → ℕ → Type 0
AreDone place steps count =
    ((n : ℕ) × (number : ProofNumber) × IsStepFault place (run_part steps) n number × (count ≡ n + 1)) ⊎
    (IsReached place steps × (count ≡ length (run_part steps)))
