-- Which theorems of a new base keep what was checked in an old one, and what the runs of the others come to.
use Rattle.std.specs.Prelude.{◌≡◌, ◌≤◌, ◌<◌, ◌+◌, ◌⊎◌, ℕ, true, false, Option, Some, None, List, [], ◌∷◌, ◌++◌, length, slice_get, slice_index_or}
use Rattle.mm_proof.specs.mm_store.Language.FilesView.{FilesView}
use Rattle.mm_proof.specs.mm_frame.Language.Base.{BaseView, AreLabelled, is_proof_at}
use Rattle.mm_proof.specs.mm_frame.declared.base.Base.{Base}
use Rattle.mm_proof.specs.mm_frame.Language.Answering.{IsBaseBy}
use Rattle.mm_proof.specs.Language.BaseMarks.{MarksView, AreMarks}
use Rattle.mm_proof.specs.mm_verdict.Language.VerdictAt.{AreDoneAt}
use Rattle.mm_proof.specs.mm_verdict.Language.ReadIn.{IsReadIn}
use Rattle.mm_proof.specs.mm_verdict.Language.Work.{Recorded}
use Rattle.mm_keep.specs.Code.KeptCheck.{Kept}
use Rattle.mm_keep.specs.Code.KeptSession.{IsKeptAt, AreChecked}
use Rattle.mm_keep.specs.Language.Runs.{HasSameView, HadView, AreThose, AreStepsOf}

-- what is planned for item j of the new base: it keeps what was checked of item i of the old one; or it keeps nothing, for there is none
-- with its label and its view
abbrev pub IsPlanned : BaseView → BaseView → ℕ → Option ℕ → Type 0
IsPlanned old new j (Some i) = HasSameView old new i j
IsPlanned old new j None = ¬ HadView old new j

-- what an item keeps by a plan, which may end before it: then it keeps nothing
abbrev pub kept_by : List (Option ℕ) → ℕ → Option ℕ
kept_by plan j = slice_index_or plan j None

-- there is such a plan for each item of the new base
abbrev pub ArePlanned : BaseView → BaseView → List (Option ℕ) → Type 0
ArePlanned old new plan = (j : ℕ) → j < length new → IsPlanned old new j (kept_by plan j)

-- what is kept of item j before anything is carried, by the plan: a free place, if it keeps what was checked before; else what its run says
abbrev pub IsRunBy : BaseView → Option ℕ → ℕ → Kept → Type 0
IsRunBy new (Some i) j one = one ≡ Some None
IsRunBy new None j one = IsKeptAt new j one

-- one more item is added, of which this is kept
abbrev pub AddsOne : List Kept → List Kept → (Kept → Type 0) → Type 0
AddsOne before after holds = (one : Kept) × (after ≡ before ++ one ∷ []) × holds one

-- the first items have such results
abbrev pub AreRunBy : BaseView → List (Option ℕ) → List Kept → Type 0
AreRunBy new plan checked = (j : ℕ) (one : Kept) → slice_get checked j ≡ Some one → IsRunBy new (kept_by plan j) j one

-- the item is a sound theorem that keeps nothing
pub record RunsBy (new : BaseView) (plan : List (Option ℕ)) (j : ℕ) : Type 0 where
  pub theorem : is_proof_at new j ≡ true
  pub nothing : kept_by plan j ≡ None

-- the runs of the first items, by the plan, are recorded
pub record AreRecorded (new : BaseView) (plan : List (Option ℕ)) (count : ℕ) (work : Recorded) : Type 0 where
  pub those : AreThose (RunsBy new plan) count work.runs
  pub steps : AreStepsOf new work.runs work.steps

-- two bases over the same names, whose items can be read in the same files
pub record AreBothRead (names : List (List ℕ)) (files : FilesView) (old new : Base) (base copy : BaseView) : Type 0 where
  pub old_is : IsReadIn names files old base
  pub new_is : IsReadIn names files new copy

-- the marks of these two bases say what stays of the old one
abbrev pub AreMarksBy : List (List ℕ) → Base → Base → MarksView → Type 0
AreMarksBy names old new marks = (base copy : BaseView) → IsBaseBy names base old → IsBaseBy names copy new → AreMarks base copy marks

-- there are two such bases, and the new one has an item with this number
abbrev pub HasItemBothRead : List (List ℕ) → FilesView → Base → Base → ℕ → Type 0
HasItemBothRead names files old new j = (base : BaseView) × (copy : BaseView) × AreBothRead names files old new base copy × (j < length copy)

-- the base has an item with this number, which can be read in these files
abbrev pub HasItemRead : List (List ℕ) → FilesView → Base → ℕ → Type 0
HasItemRead names files code j = (view : BaseView) × IsReadIn names files code view × (j < length view)

-- one more run is recorded, that of item j, with the steps that are done in it
pub record RecordsRun (new : BaseView) (j : ℕ) (before after : Recorded) : Type 0 where
  pub runs : after.runs ≡ before.runs ++ j ∷ []
  pub room : after.room + 1 ≡ before.room
  pub count : ℕ
  pub done : AreDoneAt new j count
  pub few : count ≤ 4294967295
  pub steps : after.steps ≡ before.steps + count

-- the run of item j is recorded if it is a sound theorem that keeps nothing, and nothing else is
abbrev pub RecordsIf : BaseView → Option ℕ → ℕ → Recorded → Recorded → Type 0
RecordsIf new (Some i) j before after = after ≡ before
RecordsIf new None j before after = ((is_proof_at new j ≡ true) × RecordsRun new j before after) ⊎ ((is_proof_at new j ≡ false) × (after ≡ before))

-- what there is of two bases before what was checked of the old one is carried to the new one
pub record CanCarry (base copy : BaseView) (checked : List Kept) (plan : List (Option ℕ)) (ran : List Kept) : Type 0 where
  pub old_labelled : AreLabelled base
  pub new_labelled : AreLabelled copy
  pub planned : ArePlanned base copy plan
  pub was : AreChecked base checked
  pub ran_is : AreRunBy copy plan ran
  pub count : length ran ≡ length copy

-- there are two bases of which what was checked can be carried like this
abbrev pub CanBeCarried : List Kept → List (Option ℕ) → List Kept → Type 0
CanBeCarried checked plan ran = (base : BaseView) × (copy : BaseView) × CanCarry base copy checked plan ran
