-- What a session goes on with after a change of its files.
use Rattle.std.specs.Prelude.{◌≡◌, ◌≢◌, ℕ, true, None, List, length}
use Rattle.mm_proof.specs.mm_store.Language.FilesView.{FilesView, files_in, number_of}
use Rattle.mm_proof.specs.mm_frame.Language.Base.{BaseView, IsOfFiles, is_proof_at}
use Rattle.mm_proof.specs.mm_frame.Language.Answering.{IsBaseBy, StandsLater}
use Rattle.mm_proof.specs.mm_frame.declared.base.Base.{Base}
use Rattle.mm_keep.specs.Code.KeptSession.{AreChecked}
use Rattle.mm_keep.specs.Code.Planned.{ArePlanned, AreRunBy}
use Rattle.mm_keep.specs.Language.Runs.{AreThose, AreRuns, AreStepsOf}
use Rattle.mm_keep.specs.declared.keeping.Next.{Next}
use Rattle.mm_keep.specs.declared.keeping.Ran.{Ran}

-- the files have the top file
abbrev pub HasTop : FilesView → List ℕ → Type 0
HasTop files top = number_of (files_in files) top ≢ None

-- the code's base is that of these files, by these names and by any that begin with them
pub record IsBuilt (names : List (List ℕ)) (files : FilesView) (top : List ℕ) (code : Base) (base : BaseView) : Type 0 where
  pub of_files : IsOfFiles files top code.items base
  pub by_names : IsBaseBy names base code
  pub later : StandsLater names base code

-- each theorem of the new base keeps what was checked before, or is run
pub record KeepsOrRuns (old base : BaseView) (run : Ran) : Type 0 where
  pub planned : ArePlanned old base run.plan
  pub ran : AreRunBy base run.plan run.checked
  pub count : length run.checked ≡ length base
  pub runs : AreRuns old base run.work.runs
  pub steps : AreStepsOf base run.work.runs run.work.steps

-- each theorem of the first base is run
pub record RunsAll (base : BaseView) (run : Ran) : Type 0 where
  pub checked : AreChecked base run.checked
  pub runs : AreThose (λ i. is_proof_at base i ≡ true) (length base) run.work.runs
  pub steps : AreStepsOf base run.work.runs run.work.steps

-- there is a base of these files, and each of its theorems keeps what was checked before, or is run
pub record IsNextBase (names : List (List ℕ)) (files : FilesView) (top : List ℕ) (old : BaseView) (next : Next) : Type 0 where
  pub base : BaseView
  pub built : IsBuilt names files top next.base base
  pub goes_on : KeepsOrRuns old base next.ran

pub record IsFirst (names : List (List ℕ)) (files : FilesView) (top : List ℕ) (next : Next) : Type 0 where
  pub base : BaseView
  pub built : IsBuilt names files top next.base base
  pub begins : RunsAll base next.ran
