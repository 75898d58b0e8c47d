-- The stack machine that judges a proof: what a step does to the stack and the saved expressions (Metamath book, 4.1.4 and Appendix B).
use Rattle.std.specs.Prelude.{◌≡◌, ℕ, ◌+◌, ◌<◌, Bool, true, false, Some, List, [], ◌∷◌, ◌++◌, length, take, count_by, slice_get}
use Rattle.mm_machine.specs.Language.Frame.{Symbol, LabelMeaning, Hypothesis, Assertion, Inactive, Unknown, Setting}
use Rattle.mm_machine.specs.Language.Steps.{Moves}
use Rattle.mm_machine.specs.Language.Expansion.{Step, Named, Saved, Save, NotKnown}

-- The entries, the last one on top, and what was saved, in order.
pub record State : Type 0 where
  pub stack : List (List Symbol)
  pub saved : List (List Symbol)

-- the step takes the one state to the other
abbrev pub Turns : Setting → Step → State → State → Type 0
Turns place (Named label) before after = Moves place.active (place.resolve label) before.stack after.stack × (after.saved ≡ before.saved)
Turns place (Saved n) before after =
    (e : List Symbol) × (slice_get before.saved n ≡ Some e) × (after.stack ≡ before.stack ++ e ∷ []) × (after.saved ≡ before.saved)
Turns place Save before after =
    (below : List (List Symbol)) × (e : List Symbol) × (before.stack ≡ below ++ e ∷ []) ×
    (after.stack ≡ before.stack) × (after.saved ≡ before.saved ++ e ∷ [])
Turns place NotKnown before after = ⊥

-- the label is of a hypothesis that is active, or of an assertion
abbrev pub IsUsable : LabelMeaning → Type 0
IsUsable (Hypothesis e) = Unit {0}
IsUsable (Assertion frame) = Unit {0}
IsUsable Inactive = ⊥
IsUsable Unknown = ⊥

-- the step is a save
abbrev pub is_save : Step → Bool
is_save Save = true
is_save _ = false

-- what decoding makes sure of: each label can be used, and each saved number is below the count of the saves before it
pub record AreDecoded (place : Setting) (steps : List Step) : Type 0 where
  pub usable : (n : ℕ) (label : List ℕ) → slice_get steps n ≡ Some (Named label) → IsUsable (place.resolve label)
  pub saved : (n k : ℕ) → slice_get steps n ≡ Some (Saved k) → k < count_by is_save (take n steps)

-- the same from step to step: each label can be used, and each saved number is below the count of these saves and those before it
abbrev pub AreDecodedAfter : Setting → ℕ → List Step → Type 0
AreDecodedAfter place saves [] = Unit {0}
AreDecodedAfter place saves (Named label ∷ steps) = IsUsable (place.resolve label) × AreDecodedAfter place saves steps
AreDecodedAfter place saves (Saved n ∷ steps) = (n < saves) × AreDecodedAfter place saves steps
AreDecodedAfter place saves (Save ∷ steps) = AreDecodedAfter place (saves + 1) steps
AreDecodedAfter place saves (NotKnown ∷ steps) = AreDecodedAfter place saves steps

-- the steps take the one state to the other, one turn after another
abbrev pub Runs : Setting → State → List Step → State → Type 0
Runs place before [] after = after ≡ before
Runs place before (step ∷ steps) after = (mid : State) × Turns place step before mid × Runs place mid steps after

-- what there is before the first step
abbrev pub nothing_yet : State
nothing_yet = record { stack = []; saved = [] }

-- the step is judged after this state: decoding has made sure of it
abbrev pub IsReady : Setting → State → Step → Type 0
IsReady place s (Named label) = IsUsable (place.resolve label)
IsReady place s (Saved n) = n < length s.saved
IsReady place s Save = Unit {0}
IsReady place s NotKnown = ⊥
