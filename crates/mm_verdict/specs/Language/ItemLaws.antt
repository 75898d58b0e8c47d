-- What is proved of the proofs of items: each is the contract of a function.
use Rattle.std.specs.Prelude.{◌≡◌, ◌↔◌, ◌≤◌, ℕ, Ok, true, List, [], length, slice_index_or}
use Rattle.std.specs.List.{AllByRecursion, AllZip, list_all}
use Rattle.mm_frame.specs.mm_text.Language.Unit.{is_label_byte}
use Rattle.mm_frame.specs.Language.Base.{BaseView, AreLabelled, frame_at, said_at}
use Rattle.mm_machine.specs.Language.Frame.{Mandatory, Hypothesis, Setting, Symbol}
use Rattle.mm_machine.specs.Language.Derivation.{Derives}
use Rattle.mm_verdict.specs.Language.Decoding.{decoding}
use Rattle.mm_verdict.specs.Language.BaseLabels.{setting_at}
use Rattle.mm_machine.specs.Language.Verdict.{Decoded, IsVerdict, StepsDerive}
use Rattle.mm_verdict.specs.Language.VerdictAt.{mandatory_labels, statement_at, decoding_at, IsVerdictAt, AreDoneAt}
use Rattle.mm_machine.specs.declared.Spot.{Spot}
use Rattle.mm_machine.specs.declared.Verdict.{Verdict}
use Rattle.mm_machine.specs.declared.Verdict.TheVariants.{Proved, Incomplete, Wrong}

-- the label means the hypothesis at this place
abbrev pub MeansHypothesis : Setting → List ℕ → Mandatory → Type 0
MeansHypothesis place label h = place.resolve label ≡ Hypothesis h.expression

-- The label of each mandatory hypothesis of an item means it there.
abbrev pub MandatoryLabelsMean : Type 0
MandatoryLabelsMean =
    (view : BaseView) (i : ℕ) → AreLabelled view →
    AllZip (MeansHypothesis (setting_at view i)) (mandatory_labels view i) (frame_at view i).hypotheses

-- There is one verdict at most on the proof of an item.
abbrev pub HasOneVerdictAt : Type 0
HasOneVerdictAt = (view : BaseView) (i : ℕ) (v w : Verdict) → IsVerdictAt view i v → IsVerdictAt view i w → v ≡ w

-- There is a verdict on the proof of an item, if the items say what their words say.
abbrev pub HasVerdictAt : Type 0
HasVerdictAt = (view : BaseView) (i : ℕ) → AreLabelled view → (v : Verdict) × IsVerdictAt view i v

-- the proof of the item with this number decodes to steps, and the labels that they stand for derive its statement
abbrev pub IsDerivedAt : BaseView → ℕ → Type 0
IsDerivedAt view i = (d : Decoded) × (decoding_at view i ≡ Ok d) × StepsDerive (setting_at view i) d.steps (statement_at view i)

-- Proved is the verdict exactly when the labels that the steps of the proof stand for derive the statement.
abbrev pub ProvedIsDerivedAt : Type 0
ProvedIsDerivedAt = (view : BaseView) (i : ℕ) → IsVerdictAt view i Proved ↔ IsDerivedAt view i

-- There is one number at most of the steps of the proof of an item that are done.
abbrev pub HasOneCountAt : Type 0
HasOneCountAt = (view : BaseView) (i a b : ℕ) → AreDoneAt view i a → AreDoneAt view i b → a ≡ b

-- There is a number of the steps of the proof of an item that are done, if the items say what their words say.
abbrev pub HasCountAt : Type 0
HasCountAt = (view : BaseView) (i : ℕ) → AreLabelled view → (count : ℕ) × AreDoneAt view i count

-- the spot is in these words: at a byte of one of them, or at the end after the last
pub record IsSpotIn (words : List (List ℕ)) (spot : Spot) : Type 0 where
  pub word : spot.word ≤ length words
  pub letter : spot.letter ≤ length (slice_index_or words spot.word [])

-- the spot that a verdict names, if it names one, is in these words
abbrev pub TellsSpotIn : List (List ℕ) → Verdict → Type 0
TellsSpotIn words Proved = Unit {0}
TellsSpotIn words (Incomplete spot) = IsSpotIn words spot
TellsSpotIn words (Wrong number spot) = IsSpotIn words spot

-- The spot of the verdict on the proof of an item is in that proof.
abbrev pub SpotsAreIn : Type 0
SpotsAreIn = (view : BaseView) (i : ℕ) (v : Verdict) → IsVerdictAt view i v → TellsSpotIn (said_at view i).proof v

-- each byte of the word is one that a label may have
abbrev pub CouldLabel : List ℕ → Type 0
CouldLabel word = list_all is_label_byte word ≡ true

-- Labels of label characters that derive a statement are a normal proof of it: as the words of the proof, they are judged Proved.
abbrev pub LabelsAreAProof : Type 0
LabelsAreAProof =
    (place : Setting) (mandatory labels : List (List ℕ)) (statement : List Symbol) → AllByRecursion CouldLabel labels → Derives place labels statement
    → IsVerdict place statement (decoding place mandatory labels) Proved
