-- What stays of an old base in a new one, for each item of the new one.
use Rattle.std.specs.Prelude.{◌≡◌, ◌↔◌, ℕ, ◌<◌, Bool, true, false, Option, Some, None, List, length, slice_get, slice_index_or}
use Rattle.mm_frame.specs.Language.Base.{BaseView, before, said_at, is_framed_at, is_proof_at, is_shown_at, frame_at}
use Rattle.mm_frame.specs.mm_machine.Language.Frame.{AreSameFrame, AreSamePairs}
use Rattle.mm_frame.specs.Language.Framing.{active_pairs}
use Rattle.mm_verdict.specs.Language.BaseLabels.{setting_at}
use Rattle.mm_verdict.specs.Language.SameToDecode.{IsSameLabel}

-- What is reported of an item: the number of the sound item of the old base that has its label; whether both are assertions with the same
-- frame; whether both are theorems with the same active pairs; and whether every label is known to mean the same at both.
pub record ItemMark : Type 0 where
  pub old : Option ℕ
  pub frame : Bool
  pub pairs : Bool
  pub in_step : Bool

-- What is reported of two bases: a mark for each item of the new one; and the items of the new one whose labels are listed as changed.
pub record MarksView : Type 0 where
  pub items : List ItemMark
  pub changed : List ℕ

-- nothing stays
abbrev pub no_mark : ItemMark
no_mark = record { old = None; frame = false; pairs = false; in_step = false }

-- the mark of the item with this number; if there is none, nothing stays
abbrev pub mark_at : MarksView → ℕ → ItemMark
mark_at marks j = slice_index_or marks.items j no_mark

-- item i of the old base and item j of the new one are sound and have one label
pub record HaveOneLabel (old new : BaseView) (i j : ℕ) : Type 0 where
  pub within : i < length old
  pub was : is_shown_at old i ≡ true
  pub is : is_shown_at new j ≡ true
  pub label : (said_at old i).label ≡ (said_at new j).label

-- item j of the new base is an assertion, and the old base has one with its label and its frame
pub record KeepsFrame (old new : BaseView) (j : ℕ) : Type 0 where
  pub i : ℕ
  pub one_label : HaveOneLabel old new i j
  pub was : is_framed_at old i ≡ true
  pub is : is_framed_at new j ≡ true
  pub same : AreSameFrame (frame_at old i) (frame_at new j)

-- item j of the new base is a theorem, and the old base has one with its label and the same active pairs
pub record KeepsPairs (old new : BaseView) (j : ℕ) : Type 0 where
  pub i : ℕ
  pub one_label : HaveOneLabel old new i j
  pub was : is_proof_at old i ≡ true
  pub is : is_proof_at new j ≡ true
  pub same : AreSamePairs (active_pairs (before old i)) (active_pairs (before new j))

-- the label is that of an item of the new base before item j that is listed as changed
pub record IsToldChanged (new : BaseView) (changed : List ℕ) (j : ℕ) (label : List ℕ) : Type 0 where
  pub m : ℕ
  pub place : ℕ
  pub told : slice_get changed place ≡ Some m
  pub earlier : m < j
  pub label_is : (said_at new m).label ≡ Some label

-- every label that is not listed as changed means the same at it and at the sound item of the old base that has its label
abbrev pub KeepsLabels : BaseView → BaseView → List ℕ → ℕ → Type 0
KeepsLabels old new changed j = (i : ℕ) → HaveOneLabel old new i j → (label : List ℕ) → ¬ IsToldChanged new changed j label
    → IsSameLabel (setting_at old i) (setting_at new j) label

-- the mark says this of item j of the new base
pub record IsMark (old new : BaseView) (j : ℕ) (mark : ItemMark) : Type 0 where
  pub old_is : (i : ℕ) → (mark.old ≡ Some i) ↔ HaveOneLabel old new i j
  pub frame_is : (mark.frame ≡ true) ↔ KeepsFrame old new j
  pub pairs_is : (mark.pairs ≡ true) ↔ KeepsPairs old new j

-- the marks are right of each item of the new base
pub record AreMarks (old new : BaseView) (marks : MarksView) : Type 0 where
  pub count : length marks.items ≡ length new
  pub each : (j : ℕ) → j < length new → IsMark old new j (mark_at marks j)
  pub in_step : (j : ℕ) → j < length new → (mark_at marks j).in_step ≡ true → KeepsLabels old new marks.changed j
