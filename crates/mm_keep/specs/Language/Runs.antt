-- Which proofs are run between two databases: those of theorems whose view is not that of before.
use Rattle.std.specs.Prelude.{◌≡◌, ◌↔◌, ◌<◌, ℕ, true, List, Contains, AllPairs, length, sum}
use Rattle.std.specs.List.{AllZip}
use Rattle.mm_proof.specs.mm_store.Language.FilesView.{File}
use Rattle.mm_proof.specs.mm_statement.Language.Database.{Located, IsDatabase}
use Rattle.mm_proof.specs.mm_frame.Language.Base.{BaseView, base_of, said_at, is_proof_at}
use Rattle.mm_proof.specs.mm_verdict.Language.View.{view_at, AreSameViews}
use Rattle.mm_proof.specs.mm_verdict.Language.VerdictAt.{AreDoneAt}

-- these are the numbers below the count of which this holds, from the lowest up
pub record AreThose (P : ℕ → Type 0) (count : ℕ) (numbers : List ℕ) : Type 0 where
  pub rising : AllPairs (λ m n. m < n) numbers
  pub each : (k : ℕ) → Contains numbers k ↔ ((k < count) × P k)

-- item i of the old database and item j of the new one are sound theorems of one label with equal views
pub record HasSameView (old new : BaseView) (i j : ℕ) : Type 0 where
  pub within : i < length old
  pub was : is_proof_at old i ≡ true
  pub is : is_proof_at new j ≡ true
  pub label : (said_at old i).label ≡ (said_at new j).label
  pub view : AreSameViews (view_at old i) (view_at new j)

-- the old database had this theorem with this view: some sound theorem of it has the same label and an equal view
abbrev pub HadView : BaseView → BaseView → ℕ → Type 0
HadView old new j = (i : ℕ) × HasSameView old new i j

-- item j of the new database is run: it is a sound theorem, and the old database had none of its label with an equal view
pub record IsRun (old new : BaseView) (j : ℕ) : Type 0 where
  pub theorem : is_proof_at new j ≡ true
  pub changed : ¬ HadView old new j

-- these items of the new database are run: exactly those that have to be, in order, each once
abbrev pub AreRuns : BaseView → BaseView → List ℕ → Type 0
AreRuns old new runs = AreThose (IsRun old new) (length new) runs

-- these items are run between the files before and the files after, both read from the top file on
pub record AreRunsOf (before after : List File) (top : List ℕ) (runs : List ℕ) : Type 0 where
  pub old : List Located
  pub new : List Located
  pub were : IsDatabase before top old
  pub are : IsDatabase after top new
  pub those : AreRuns (base_of old) (base_of new) runs

-- the runs of these items do this many steps in all
pub record AreStepsOf (base : BaseView) (runs : List ℕ) (total : ℕ) : Type 0 where
  pub counts : List ℕ
  pub each : AllZip (AreDoneAt base) runs counts
  pub total_is : total ≡ sum counts
