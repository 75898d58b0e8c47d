-- What is kept of what stays of an old base in a new one.
use Rattle.std.specs.Prelude.{◌≡◌, ◌↔◌, ◌<◌, ℕ, Bool, true, false, not, Option, Some, List, length, map, slice_get, bytes_eq, codes}
use Rattle.std.specs.HashMap.{get}
use Rattle.std.specs.List.{AllByRecursion}
use Rattle.mm_frame.specs.Language.Base.{BaseView, before, said_at, is_shown_at, is_framed_at, is_proof_at, frame_at, hypothesis_at, ShareMandatory}
use Rattle.mm_frame.specs.mm_machine.Language.Frame.{LabelMeaning, Hypothesis, Assertion, Inactive, Unknown, AreSameFrame, AreSamePairs}
use Rattle.mm_frame.specs.Language.Framing.{active_pairs, expression}
use Rattle.mm_frame.specs.Language.Resolving.{IsCarrier}
use Rattle.mm_frame.specs.Language.Answering.{HasNumber, IsBaseBy, same_numbers}
use Rattle.mm_frame.specs.declared.base.Base.{Base}
use Rattle.mm_frame.specs.declared.base.Resolved as answer
use Rattle.mm_frame.specs.declared.base.Resolved.TheVariants as answers
use Rattle.mm_verdict.specs.Language.BaseLabels.{setting_at}
use Rattle.mm_proof.specs.Language.BaseMarks.{ItemMark, MarksView, AreMarks, IsMark, KeepsLabels, mark_at}
use Rattle.mm_verdict.specs.Language.SameToDecode.{IsSameLabel, labels_named}
use Rattle.mm_proof.specs.declared.compared.Compared.{Compared}
use Rattle.mm_proof.specs.declared.mark.Mark as code
use Rattle.mm_proof.specs.declared.marks.Marks.TheInside.{Inside}

-- what is kept of an item
abbrev pub kept_mark : code.Mark → ItemMark
kept_mark mark = record { old = mark.old; frame = mark.frame; pairs = mark.pairs; in_step = mark.in_step }

abbrev pub kept_marks : List code.Mark → List ItemMark
kept_marks marks = map kept_mark marks

abbrev pub marks_of : Inside → MarksView
marks_of inside = record { items = kept_marks inside.marks.items; changed = inside.changed.items }

-- this holds of what an old base and a new one answer, both by the same names
abbrev pub OfBases : Base → Base → (BaseView → BaseView → Type 0) → Type 0
OfBases old new holds = (names : List (List ℕ)) (base copy : BaseView) → IsBaseBy names base old → IsBaseBy names copy new → holds base copy

-- this holds of what an old base and a new one answer, both by these names
abbrev pub OfBasesBy : List (List ℕ) → Base → Base → (BaseView → BaseView → Type 0) → Type 0
OfBasesBy names old new holds = (base copy : BaseView) → IsBaseBy names base old → IsBaseBy names copy new → holds base copy

-- what is reported of them is what stays of the old base in the new one
abbrev pub AreMarksOf : List (List ℕ) → Base → Base → MarksView → Type 0
AreMarksOf names old new marks = OfBasesBy names old new (λ base copy. AreMarks base copy marks)

-- this is the item that carries the label, or none does
abbrev pub IsOneCarrier : BaseView → List ℕ → Option ℕ → Type 0
IsOneCarrier base label carrier = (n : ℕ) → (carrier ≡ Some n) ↔ IsCarrier base label n

-- both items are assertions with the same frame
pub record ShareFrame (base copy : BaseView) (i j : ℕ) : Type 0 where
  pub was : is_framed_at base i ≡ true
  pub is : is_framed_at copy j ≡ true
  pub same : AreSameFrame (frame_at base i) (frame_at copy j)

-- both are theorems
pub record AreTheorems (base copy : BaseView) (i j : ℕ) : Type 0 where
  pub was : is_proof_at base i ≡ true
  pub is : is_proof_at copy j ≡ true

-- the same pairs are active at both
abbrev pub SharePairs : BaseView → BaseView → ℕ → ℕ → Type 0
SharePairs base copy i j = AreSamePairs (active_pairs (before base i)) (active_pairs (before copy j))

-- an answer for two numbers, one of each base, is right of all items that have them
abbrev pub IsAnswered : Base → Base → (Base → List (Option ℕ)) → (BaseView → BaseView → ℕ → ℕ → Type 0) → ℕ × ℕ → Bool → Type 0
IsAnswered old new numbers Share both same = (i j : ℕ) → HasNumber (numbers old) i both.0 → HasNumber (numbers new) j both.1
    → OfBases old new (λ base copy. (same ≡ true) ↔ Share base copy i j)

-- what is kept of what was compared is right
pub record AreCompared (old new : Base) (compared : Compared) : Type 0 where
  pub frames : (both : ℕ × ℕ) (same : Bool) → get same_numbers compared.frames both ≡ Some same
      → IsAnswered old new (λ answers. answers.frame_numbers) ShareMandatory both same
  pub lists : (both : ℕ × ℕ) (same : Bool) → get same_numbers compared.lists both ≡ Some same
      → IsAnswered old new (λ answers. answers.list_numbers) SharePairs both same

-- both items are the same hypothesis
pub record IsOneHypothesis (base copy : BaseView) (i j : ℕ) : Type 0 where
  pub was : is_framed_at base i ≡ false
  pub is : is_framed_at copy j ≡ false
  pub same : hypothesis_at base i ≡ hypothesis_at copy j

-- if a mark says that item j is the same hypothesis as the old item that it names, this is true
abbrev pub IsHypothesisMark : Base → Base → ℕ → code.Mark → Type 0
IsHypothesisMark old new j mark = mark.hypothesis ≡ true → (i : ℕ) → mark.old ≡ Some i → OfBases old new (λ base copy. IsOneHypothesis base copy i j)

-- this holds of each of these marks
abbrev pub AreHypothesisMarks : Base → Base → List code.Mark → Type 0
AreHypothesisMarks old new marks = (m : ℕ) (mark : code.Mark) → slice_get marks m ≡ Some mark → IsHypothesisMark old new m mark

-- the marks of this many items are kept
pub record AreItemMarks (base copy : BaseView) (count : ℕ) (marks : MarksView) : Type 0 where
  pub count_is : length marks.items ≡ count
  pub each : (j : ℕ) → j < count → IsMark base copy j (mark_at marks j)
  pub in_step : (j : ℕ) → j < count → (mark_at marks j).in_step ≡ true → KeepsLabels base copy marks.changed j

-- the item that an answer names has an expression, or a frame
abbrev pub IsShownItem : BaseView → answer.Resolved → Type 0
IsShownItem base (answers.Hypothesis n) = is_shown_at base n ≡ true
IsShownItem base (answers.Assertion n) = is_framed_at base n ≡ true
IsShownItem base answers.Inactive = Unit {0}
IsShownItem base answers.Unknown = Unit {0}

-- what an answer stands for
abbrev pub stands_for : BaseView → answer.Resolved → LabelMeaning
stands_for base (answers.Hypothesis n) = Hypothesis (expression (before base n) (said_at base n))
stands_for base (answers.Assertion n) = Assertion (frame_at base n)
stands_for base answers.Inactive = Inactive
stands_for base answers.Unknown = Unknown

-- the word of a normal proof is a label
abbrev pub is_label_word : List ℕ → Bool
is_label_word word = not (bytes_eq word (codes "?"))

-- two theorems have the same expression and mandatory hypotheses
pub record ShareHypotheses (base copy : BaseView) (i j : ℕ) : Type 0 where
  pub expression : (frame_at base i).expression ≡ (frame_at copy j).expression
  pub hypotheses : (frame_at base i).hypotheses ≡ (frame_at copy j).hypotheses

-- their proofs have the same words, and the labels that these name mean the same
pub record ShareProof (base copy : BaseView) (i j : ℕ) : Type 0 where
  pub words : (said_at base i).proof ≡ (said_at copy j).proof
  pub labels : AllByRecursion (IsSameLabel (setting_at base i) (setting_at copy j)) (labels_named (said_at copy j).proof)
