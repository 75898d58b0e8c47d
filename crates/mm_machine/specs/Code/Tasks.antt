-- What the machine does at each step.
use Rattle.std.specs.Prelude.{◌≡◌, ℕ, ◌<◌, List}
use Rattle.mm_machine.specs.Language.Frame.{Symbol, Frame, Setting}
use Rattle.mm_machine.specs.Language.Expansion.{Step, Named, Saved, Save}
use Rattle.mm_machine.specs.Language.Machine.{State}
use Rattle.mm_machine.specs.Language.NamedSteps.{MeansUse}
use Rattle.mm_machine.specs.declared.stepping.Task.{Task}
use Rattle.mm_machine.specs.declared.stepping.Task.TheVariants as tasks
use Rattle.mm_machine.specs.declared.named.Use.TheVariants as uses
use Rattle.mm_machine.specs.declared.machine.Machine.{Machine}
use Rattle.mm_machine.specs.Code.MachineState.{state_of}

-- what a task means at a place
abbrev pub MeansTask : List (List Symbol) → List Frame → Setting → Task → Step → Type 0
MeansTask expressions frames place (tasks.Push n) (Named label) = MeansUse expressions frames place (uses.Lasting n) (Named label)
MeansTask expressions frames place (tasks.Cite n) (Named label) = MeansUse expressions frames place (uses.Assertion n) (Named label)
MeansTask expressions frames place (tasks.Again n) (Saved m) = n ≡ m
MeansTask expressions frames place tasks.Keep Save = Unit {0}
MeansTask expressions frames place _ _ = ⊥

-- the number of a task is in range, after this many saves
abbrev pub IsTaskWithin : ℕ → ℕ → ℕ → Task → Type 0
IsTaskWithin lasting assertions saves (tasks.Push n) = n < lasting
IsTaskWithin lasting assertions saves (tasks.Cite n) = n < assertions
IsTaskWithin lasting assertions saves (tasks.Again n) = n < saves
IsTaskWithin lasting assertions saves tasks.Keep = Unit {0}

-- how many expressions a task saves
abbrev pub saves_of : Task → ℕ
saves_of tasks.Keep = 1
saves_of _ = 0

-- the machine has the state of a run
pub record HasState {S : Type 0} (means : S → Symbol) (machine : Machine S) (state : State) : Type 0 where
  pub stack : (state_of means machine).stack ≡ state.stack
  pub saved : (state_of means machine).saved ≡ state.saved
