-- The labels of a proof that its steps name: marks for them.
use Rattle.std.specs.Prelude.{◌≡◌, ◌<◌, ℕ, Bool, Option, Some, None, List, length}
use Rattle.std.specs.List.{list_any}
use Rattle.mm_machine.specs.declared.step.Action.{Action}
use Rattle.mm_machine.specs.declared.step.Action.TheVariants as actions
use Rattle.mm_machine.specs.declared.step.ProofStep.{ProofStep}
use Rattle.mm_verdict.specs.Code.Cited.{is_item, marked_at}

-- the number of the label that an action names
abbrev pub label_named : Action → Option ℕ
label_named (actions.Label k) = Some k
label_named (actions.Saved n) = None
label_named actions.Save = None
label_named actions.Unknown = None

-- the step names the label with this number
abbrev pub names_label : ℕ → ProofStep → Bool
names_label k step = is_item (label_named step.action) k

-- an action names one of so many labels, if it names one
abbrev pub IsLabelWithin : ℕ → Action → Type 0
IsLabelWithin labels (actions.Label k) = k < labels
IsLabelWithin labels _ = Unit {0}

-- of so many labels those are marked that some step names
pub record AreUseMarks (labels : ℕ) (marks : List Bool) (steps : List ProofStep) : Type 0 where
  pub count : length marks ≡ labels
  pub each : (k : ℕ) → k < labels → marked_at marks k ≡ list_any (names_label k) steps
