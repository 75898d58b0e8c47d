-- The verdict on a proof: proved, incomplete, or wrong by one number at one spot.
use Rattle.std.specs.Prelude.{◌≡◌, ◌≢◌, ℕ, Result, Ok, Err, Some, List, [], ◌∷◌, length, slice_get}
use Rattle.mm_machine.specs.Language.Frame.{Symbol, Setting}
use Rattle.mm_machine.specs.Language.Derivation.{Derives}
use Rattle.mm_machine.specs.Language.Expansion.{Step, Expanded, expansion}
use Rattle.mm_machine.specs.Language.Reaches.{Reaches, IsStepFault}
use Rattle.mm_machine.specs.Language.Run.{run_part, IsReached}
use Rattle.mm_machine.specs.declared.Spot.{Spot}
use Rattle.mm_machine.specs.declared.ProofNumber.{ProofNumber}
use Rattle.mm_machine.specs.declared.ProofNumber.TheVariants.{P14, P15}
use Rattle.mm_machine.specs.declared.Verdict.{Verdict}
use Rattle.mm_machine.specs.declared.Verdict.TheVariants.{Proved, Incomplete, Wrong}
use Rattle.mm_machine.specs.declared.step.ProofFault.{ProofFault}

-- What decoding gives: the steps, the spot of each, and the spot after them all.
pub record Decoded : Type 0 where
  pub steps : List Step
  pub spots : List Spot
  pub close : Spot

-- the expanded labels of the steps derive the statement
abbrev pub StepsDerive : Setting → List Step → List Symbol → Type 0
StepsDerive place steps statement = (x : Expanded) × (expansion place steps ≡ Some x) × Derives place x.labels statement

-- the proof is wrong by this number at this spot. It is a step that is run, or the end of the proof: P14 if all steps reach no entry or several,
-- P15 if they reach one that is not the statement. Steps with a `?` reach nothing, since that has no expansion
abbrev pub IsWrongBy : Setting → List Symbol → Decoded → ProofNumber → Spot → Type 0
-- they reach entries, but not one
IsWrongBy place statement d P14 spot = (stack : List (List Symbol)) × Reaches place d.steps stack × (length stack ≢ 1) × (spot ≡ d.close)
-- they reach one entry, which is another
IsWrongBy place statement d P15 spot = (e : List Symbol) × Reaches place d.steps (e ∷ []) × (e ≢ statement) × (spot ≡ d.close)
-- a step that is run is at fault
IsWrongBy place statement d number spot = (n : ℕ) × IsStepFault place (run_part d.steps) n number × (slice_get d.spots n ≡ Some spot)

-- the verdict on the steps of a proof. It is Proved if they reach the statement alone. It is Incomplete if some are not run, and none of those
-- that are run is at fault: then at the first that is not run, which is a `?`. Otherwise it is Wrong
abbrev pub IsVerdictOnSteps : Setting → List Symbol → Decoded → Verdict → Type 0
-- they reach the one entry that is the statement
IsVerdictOnSteps place statement d Proved = Reaches place d.steps (statement ∷ [])
-- some are not run, and none of those that are run is at fault
IsVerdictOnSteps place statement d (Incomplete spot) =
    (run_part d.steps ≢ d.steps) × (slice_get d.spots (length (run_part d.steps)) ≡ Some spot) × IsReached place d.steps
IsVerdictOnSteps place statement d (Wrong number spot) = IsWrongBy place statement d number spot

-- the verdict on a proof of the statement at this place: a fault of decoding makes it Wrong, and else the steps decide
abbrev pub IsVerdict : Setting → List Symbol → Result Decoded ProofFault → Verdict → Type 0
IsVerdict place statement (Err fault) verdict = verdict ≡ Wrong fault.number fault.spot
IsVerdict place statement (Ok d) verdict = IsVerdictOnSteps place statement d verdict
