-- What a session keeps, by its parts, and how it goes on with edited files.
use Rattle.std.specs.Prelude.{◌≡◌, ℕ, List}
use Rattle.mm_proof.specs.mm_store.declared.item.Item as store
use Rattle.mm_proof.specs.mm_store.Language.Undoing.{UndoView}
use Rattle.mm_proof.specs.mm_store.Language.Batches.{IsSpendable, KeepsReading}
use Rattle.mm_proof.specs.mm_store.Language.FileFacts.{parked_in}
use Rattle.mm_proof.specs.mm_store.Language.FilesView.{FilesView}
use Rattle.mm_proof.specs.mm_frame.Language.Base.{BaseView, AreLabelled, IsOfFiles}
use Rattle.mm_proof.specs.mm_frame.declared.base.Base.{Base}
use Rattle.mm_proof.specs.mm_verdict.Language.Work.{Recorded}
use Rattle.mm_keep.specs.Code.KeptCheck.{Kept}
use Rattle.mm_keep.specs.Code.KeptSession.{AreChecked}
use Rattle.mm_keep.specs.Code.Next.{KeepsOrRuns, HasTop, IsBuilt}
use Rattle.mm_keep.specs.Language.Runs.{AreRuns, AreStepsOf}
use Rattle.mm_keep.specs.declared.keeping.Next.{Next}

-- between files before and files after the theorems are run whose view is not that of before, and the steps are counted
pub record HasRun (before after : FilesView) (top : List ℕ) (work : Recorded) : Type 0 where
  pub were_found : List store.Item
  pub are_found : List store.Item
  pub old : BaseView
  pub new : BaseView
  pub were : IsOfFiles before top were_found old
  pub are : IsOfFiles after top are_found new
  pub runs : AreRuns old new work.runs
  pub steps : AreStepsOf new work.runs work.steps

-- the base is that of the files, and there is what a check says of each item
pub record AreKept (files : FilesView) (top : List ℕ) (names : List (List ℕ)) (code : Base) (checked : List Kept) (base : BaseView) : Type 0 where
  pub built : IsBuilt names files top code base
  pub checked_is : AreChecked base checked
  pub parked : parked_in files ≡ 0

-- there is a base of the files, and what a check says of each item
abbrev pub HasKept : FilesView → List ℕ → List (List ℕ) → Base → List Kept → Type 0
HasKept files top names code checked = (base : BaseView) × AreKept files top names code checked base

-- there was such a base of the files before edits, which can be undone and settled
pub record WereKept
    (before after : FilesView) (undos : List UndoView) (top : List ℕ) (names : List (List ℕ)) (code : Base) (checked : List Kept) : Type 0 where
  pub base : BaseView
  pub kept : AreKept before top names code checked base
  pub reading : KeepsReading before after
  pub spendable : IsSpendable before after undos
  pub has_top : HasTop after top

-- there was one of the files of before, and what a session goes on with is there
pub record CanTake
    (before after : FilesView) (undos : List UndoView) (top : List ℕ) (names : List (List ℕ)) (checked : List Kept) (next : Next) : Type 0 where
  pub spendable : IsSpendable before after undos
  pub parked : parked_in before ≡ 0
  pub found : List store.Item
  pub old : BaseView
  pub old_is : IsOfFiles before top found old
  pub old_labelled : AreLabelled old
  pub old_checked : AreChecked old checked
  pub base : BaseView
  pub built : IsBuilt names after top next.base base
  pub goes_on : KeepsOrRuns old base next.ran

-- this holds of some files of before
abbrev pub HasTaking : FilesView → List UndoView → List Kept → Next → Type 0
HasTaking after undos checked next = (before : FilesView) × (top : List ℕ) × (names : List (List ℕ)) × CanTake before after undos top names checked next
