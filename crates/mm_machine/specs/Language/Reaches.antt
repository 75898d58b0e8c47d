-- Which stack the steps of a proof reach, and the first step after which nothing is reached.
use Rattle.std.specs.Prelude.{◌≡◌, ℕ, ◌+◌, Some, List, take, slice_get}
use Rattle.mm_machine.specs.Language.Frame.{Symbol, Setting}
use Rattle.mm_machine.specs.Language.Derivation.{DeriveInOrder}
use Rattle.mm_machine.specs.Language.Expansion.{Step, Expanded, expansion}
use Rattle.mm_machine.specs.Language.Faults.{IsLowest}
use Rattle.mm_machine.specs.declared.ProofNumber.{ProofNumber}

-- the steps reach these expressions: the labels that they stand for are a join of lists that derive one each, in order
pub record Reaches (place : Setting) (steps : List Step) (stack : List (List Symbol)) : Type 0 where
  pub expanded : Expanded
  pub expands : expansion place steps ≡ Some expanded
  pub in_order : DeriveInOrder place expanded.labels stack

-- the step with number n, from 0, is the first at fault, with this number: the steps before it reach something, those up to it nothing
pub record IsStepFault (place : Setting) (steps : List Step) (n : ℕ) (number : ProofNumber) : Type 0 where
  pub stack : List (List Symbol)
  pub step : Step
  pub reached : Reaches place (take n steps) stack
  pub at_fault : slice_get steps n ≡ Some step
  pub nothing_after : (next : List (List Symbol)) → Reaches place (take (n + 1) steps) next → ⊥
  pub number_is : IsLowest place step stack number
