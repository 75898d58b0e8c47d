-- What the labels of a proof name, what its steps mean by that, and what a run of them comes to.
use Rattle.std.specs.Prelude.{◌≡◌, ◌≢◌, ℕ, ◌<◌, ◌≤◌, Some, List, [], ◌∷◌, length, map, take, slice_get, slice_index_or, sum_by, All}
use Rattle.std.specs.List.{AllZip}
use Rattle.mm_machine.specs.Language.Frame.{Symbol, Frame, LabelMeaning, Hypothesis, Assertion, Setting, AreSameFrame}
use Rattle.mm_machine.specs.Language.Expansion.{Step, Named, Saved, Save, NotKnown}
use Rattle.mm_machine.specs.Language.Reaches.{Reaches, IsStepFault}
use Rattle.mm_machine.specs.Language.Run.{run_part, IsReached}
use Rattle.mm_machine.specs.Language.Lasting.{cited_frame, lasting_of}
use Rattle.mm_machine.specs.declared.named.Cited.{Cited}
use Rattle.mm_machine.specs.declared.machine.Machine.{Machine}
use Rattle.mm_machine.specs.declared.step.Action.{Action}
use Rattle.mm_machine.specs.declared.step.Action.TheVariants as actions
use Rattle.mm_machine.specs.declared.step.ProofStep.{ProofStep}
use Rattle.mm_machine.specs.declared.stepping.RunOutcome.{RunOutcome}
use Rattle.mm_machine.specs.declared.stepping.RunOutcome.TheVariants.{Proved, Fault, Unknown, NotOne, Other}
use Rattle.mm_machine.specs.declared.named.Use.{Use}
use Rattle.mm_machine.specs.declared.named.Use.TheVariants as uses

-- the label pushes the expression: it means this hypothesis, or an assertion that takes nothing and says this, which is not too long
abbrev pub Pushes : LabelMeaning → List Symbol → Type 0
Pushes (Hypothesis h) e = h ≡ e
Pushes (Assertion frame) e = (frame.hypotheses ≡ []) × (frame.expression ≡ e) × (length e ≤ 1000000)
Pushes _ e = ⊥

-- at this place the step is a label that pushes this expression, or that means an assertion with the same frame; or it is a `?`, which has no use
abbrev pub MeansUse : List (List Symbol) → List Frame → Setting → Use → Step → Type 0
MeansUse expressions frames place (uses.Lasting n) (Named label) =
    (e : List Symbol) × (slice_get expressions n ≡ Some e) × Pushes (place.resolve label) e
MeansUse expressions frames place (uses.Assertion n) (Named label) =
    (kept frame : Frame) × (slice_get frames n ≡ Some kept) × (place.resolve label ≡ Assertion frame) × AreSameFrame kept frame
MeansUse expressions frames place uses.Nothing NotKnown = Unit {0}
MeansUse expressions frames place _ _ = ⊥

-- at this place the labels of a proof, with these uses by a machine and these assertions that they cite, are these steps
abbrev pub AreUses : {S L : Type 0} → (S → Symbol) → (L → Symbol) → Machine S → List (Cited L) → List Use → Setting → List Step → Type 0
AreUses means listed machine cited uses place names =
    AllZip (MeansUse (map (λ h. h.expression) (lasting_of means machine)) (map (cited_frame listed (lasting_of means machine)) cited) place) uses names

-- the number of a use is in range
abbrev pub IsUseWithin : ℕ → ℕ → Use → Type 0
IsUseWithin lasting assertions (uses.Lasting n) = n < lasting
IsUseWithin lasting assertions (uses.Assertion n) = n < assertions
IsUseWithin lasting assertions uses.Nothing = Unit {0}

-- the uses of all labels are in range
abbrev pub AreUsesWithin : {S L : Type 0} → Machine S → List (Cited L) → List Use → Type 0
AreUsesWithin machine cited uses = All (IsUseWithin (length machine.lasting.patterns.items) (length cited)) uses

-- what is put again was saved, after this many saves
abbrev pub IsSavedWithin : ℕ → Action → Type 0
IsSavedWithin saves (actions.Saved n) = n < saves
IsSavedWithin saves _ = Unit {0}

-- how many expressions a step with this action saves
abbrev pub saves_by : Action → ℕ
saves_by actions.Save = 1
saves_by _ = 0

-- how many steps save
abbrev pub saves_in : List ProofStep → ℕ
saves_in steps = sum_by (λ step. saves_by step.action) steps

-- what a step pushes again was saved by a step before it
abbrev pub AreSavedBefore : List ProofStep → Type 0
AreSavedBefore steps = (n : ℕ) (step : ProofStep) → slice_get steps n ≡ Some step → IsSavedWithin (saves_in (take n steps)) step.action

-- the step that an action stands for, if the labels of the proof's table are these steps
abbrev pub meant : List Step → Action → Step
meant names (actions.Label k) = slice_index_or names k NotKnown
meant names (actions.Saved n) = Saved n
meant names actions.Save = Save
meant names actions.Unknown = NotKnown

-- what the steps mean, if the table of the proof has these names
abbrev pub actions_mean : List Step → List ProofStep → List Step
actions_mean names steps = map (λ step. meant names step.action) steps

-- what a run says of the steps of a proof
abbrev pub RunSays : Setting → List Step → List Symbol → RunOutcome → Type 0
RunSays place steps statement Proved = (run_part steps ≡ steps) × Reaches place steps (statement ∷ [])
RunSays place steps statement (Fault number n) = IsStepFault place (run_part steps) n number
RunSays place steps statement (Unknown n) = (n ≡ length (run_part steps)) × (run_part steps ≢ steps) × IsReached place steps
RunSays place steps statement NotOne = (run_part steps ≡ steps) × (stack : List (List Symbol)) × Reaches place steps stack × (length stack ≢ 1)
RunSays place steps statement Other = (run_part steps ≡ steps) × (e : List Symbol) × Reaches place steps (e ∷ []) × (e ≢ statement)

-- the steps stop at one that is at fault or not known
abbrev pub StopsAt : Setting → List Step → RunOutcome → Type 0
StopsAt place steps (Fault number n) = IsStepFault place (run_part steps) n number
StopsAt place steps (Unknown n) = (n ≡ length (run_part steps)) × (run_part steps ≢ steps) × IsReached place steps
StopsAt place steps _ = ⊥

-- all steps are run, and reach the stack
abbrev pub AreDoneTo : Setting → List Step → List (List Symbol) → Type 0
AreDoneTo place steps stack = (run_part steps ≡ steps) × Reaches place steps stack

-- the step that an outcome names is one of this many
abbrev pub IsOutcomeWithin : ℕ → RunOutcome → Type 0
IsOutcomeWithin steps (Fault number n) = n < steps
IsOutcomeWithin steps (Unknown n) = n < steps
IsOutcomeWithin steps _ = Unit {0}
