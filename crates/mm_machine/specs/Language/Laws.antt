-- What is proved of derivations, proofs and verdicts: each is the contract of a function.
use Rattle.std.specs.Prelude.{◌≡◌, ◌≢◌, ℕ, ◌↔◌, ◌⊎◌, Result, Ok, Some, None, List, [], ◌++◌, length, map, pos, ◌≤ℤ◌}
use Rattle.mm_machine.specs.Language.Frame.{Symbol, Frame, Setting}
use Rattle.mm_machine.specs.Language.Derivation.{Takes, Derives}
use Rattle.mm_machine.specs.Language.Typing.{IsTyped, IsFrame, HasFrames}
use Rattle.mm_machine.specs.Language.Expansion.{Step, weight, last_part, IsLastPart}
use Rattle.mm_machine.specs.Language.Reaches.{Reaches, IsStepFault}
use Rattle.mm_machine.specs.Language.Machine.{State, Turns, Runs, nothing_yet, IsReady, AreDecoded}
use Rattle.mm_machine.specs.Language.Faults.{StepLineHolds, IsLowest}
use Rattle.mm_machine.specs.Language.Verdict.{Decoded, StepsDerive, IsVerdict}
use Rattle.mm_machine.specs.Language.Run.{AreDone}
use Rattle.mm_machine.specs.Language.SameProof.{IsSameProof}
use Rattle.mm_machine.specs.Language.Renaming.{IsRenaming, IsRenamedSetting}
use Rattle.mm_machine.specs.declared.ProofNumber.{ProofNumber}
use Rattle.mm_machine.specs.declared.Verdict.{Verdict}
use Rattle.mm_machine.specs.declared.Verdict.TheVariants.{Proved}
use Rattle.mm_machine.specs.declared.step.ProofFault.{ProofFault}

-- A list of labels derives at most one expression, where each label of an assertion has a frame with typed variables.
abbrev pub DerivesAtMostOne : Type 0
DerivesAtMostOne = (place : Setting) → HasFrames place → (labels : List (List ℕ)) (e f : List Symbol) → Derives place labels e → Derives place labels f → e ≡ f

-- Of a substitution only what it gives for the mandatory variables counts.
abbrev pub OnlyMandatoryCount : Type 0
OnlyMandatoryCount =
    (longest : ℕ) (active : List (Symbol × Symbol)) (frame : Frame) → IsFrame frame → (given other : Symbol → List Symbol) →
    ((v : Symbol) → IsTyped frame.hypotheses v → given v ≡ other v) →
    (entries : List (List Symbol)) (result : List Symbol) → Takes longest active frame given entries result → Takes longest active frame other entries result

-- A list that derives an expression weighs one.
abbrev pub DerivedWeighsOne : Type 0
DerivedWeighsOne = (place : Setting) (labels : List (List ℕ)) (e : List Symbol) → Derives place labels e → weight place labels ≡ pos 1

-- Each shorter suffix of a list that derives an expression weighs at most zero.
abbrev pub ShorterWeighsLess : Type 0
ShorterWeighsLess =
    (place : Setting) (labels : List (List ℕ)) (e : List Symbol) → Derives place labels e →
    (front back : List (List ℕ)) → labels ≡ front ++ back → front ≢ [] → weight place back ≤ℤ pos 0

-- The last part is the shortest suffix of weight one; if no suffix weighs one, there is none.
abbrev pub LastPartIsShortest : Type 0
LastPartIsShortest =
    (place : Setting) (labels : List (List ℕ)) →
    ((part : List (List ℕ)) → last_part place labels ≡ Some part → IsLastPart place labels part) ×
    (last_part place labels ≡ None → (front back : List (List ℕ)) → labels ≡ front ++ back → weight place back ≢ pos 1)

-- A save keeps the list of the last entry.
abbrev pub SaveKeepsLastEntry : Type 0
SaveKeepsLastEntry = (place : Setting) (front part : List (List ℕ)) (e : List Symbol) → Derives place part e → last_part place (front ++ part) ≡ Some part

-- There is one verdict at most.
abbrev pub HasOneVerdict : Type 0
HasOneVerdict =
    (place : Setting) → HasFrames place → (statement : List Symbol) (decoding : Result Decoded ProofFault) (v w : Verdict) →
    IsVerdict place statement decoding v → IsVerdict place statement decoding w → v ≡ w

-- There is a verdict on what decoding gives.
abbrev pub HasVerdict : Type 0
HasVerdict =
    (place : Setting) → HasFrames place → (statement : List Symbol) (d : Decoded) →
    AreDecoded place d.steps → length d.spots ≡ length d.steps → (v : Verdict) × IsVerdict place statement (Ok d) v

-- Proved is the verdict exactly when the expanded labels of the steps derive the statement.
abbrev pub ProvedIsDerived : Type 0
ProvedIsDerived =
    (place : Setting) (statement : List Symbol) (d : Decoded) →
    IsVerdict place statement (Ok d) Proved ↔ StepsDerive place d.steps statement

-- Proofs that mean the same have the same verdicts.
abbrev pub SameProofSameVerdict : Type 0
SameProofSameVerdict =
    (place other : Setting) (statement : List Symbol) (proof copy : Decoded) (v : Verdict) →
    IsSameProof place other proof copy → IsVerdict place statement (Ok proof) v → IsVerdict other statement (Ok copy) v

-- A renaming of symbols, one to one, keeps the verdict.
abbrev pub RenamingKeepsVerdict : Type 0
RenamingKeepsVerdict =
    (to back : Symbol → Symbol) → IsRenaming to back → (place other : Setting) → IsRenamedSetting to place other →
    (statement : List Symbol) (decoding : Result Decoded ProofFault) (v : Verdict) →
    IsVerdict place statement decoding v → IsVerdict other (map to statement) decoding v

-- The machine's stack after the steps is what the steps reach.
abbrev pub MachineReaches : Type 0
MachineReaches =
    (place : Setting) → HasFrames place → (steps : List Step) (stack : List (List Symbol)) →
    ((after : State) × Runs place nothing_yet steps after × (after.stack ≡ stack)) ↔ Reaches place steps stack

-- A step that can be judged has a turn, or a lowest line that holds.
abbrev pub TurnsOrFails : Type 0
TurnsOrFails =
    (place : Setting) → HasFrames place → (s : State) (step : Step) → IsReady place s step →
    ((after : State) × Turns place step s after) ⊎ ((number : ProofNumber) × IsLowest place step s.stack number)

-- A step never has both a turn and a line that holds.
abbrev pub NeverTurnsAndFails : Type 0
NeverTurnsAndFails =
    (place : Setting) → HasFrames place → (s after : State) (step : Step) (number : ProofNumber) →
    Turns place step s after → StepLineHolds place step s.stack number → ⊥

-- There is one step at fault at most, with one number.
abbrev pub HasOneStepFault : Type 0
HasOneStepFault =
    (place : Setting) → HasFrames place → (steps : List Step) (n m : ℕ) (a b : ProofNumber) →
    IsStepFault place steps n a → IsStepFault place steps m b → (n ≡ m) × (a ≡ b)

-- There is one number at most of the steps that are done.
abbrev pub HasOneCount : Type 0
HasOneCount = (place : Setting) → HasFrames place → (steps : List Step) (a b : ℕ) → AreDone place steps a → AreDone place steps b → a ≡ b

-- There is a number of the steps that are done, if decoding gives steps.
abbrev pub HasCount : Type 0
HasCount = (place : Setting) → HasFrames place → (steps : List Step) → AreDecoded place steps → (count : ℕ) × AreDone place steps count
