-- A base whose items can be read in files, by their keys, and whose symbols by a list of names.
use Rattle.std.specs.Prelude.{◌≡◌, ℕ, ◌<◌, true, List, length}
use Rattle.std.specs.List.{AllZip}
use Rattle.mm_frame.specs.mm_store.Language.FilesView.{FilesView}
use Rattle.mm_frame.specs.Language.Base.{BaseView, is_proof_at}
use Rattle.mm_frame.specs.Language.Answering.{BaseAnswers, IsBaseBy}
use Rattle.mm_frame.specs.mm_statement.Language.Statement.{Says}

-- the answers are right of this base by these names, and its items can be read in these files and say there what it says
pub record IsReadIn (names : List (List ℕ)) (files : FilesView) (answers : BaseAnswers) (view : BaseView) : Type 0 where
  pub base : IsBaseBy names view answers
  pub each : AllZip (Says files) answers.items view

-- there is a base of which the answers are right in these files, and its item with this number is a sound `$p`
abbrev pub HasTheorem : List (List ℕ) → FilesView → BaseAnswers → ℕ → Type 0
HasTheorem names files answers i = (view : BaseView) × IsReadIn names files answers view × (i < length view) × (is_proof_at view i ≡ true)

-- this holds of the theorem with this number, in each base of which the answers are right in these files
abbrev pub OfTheorem : List (List ℕ) → FilesView → BaseAnswers → ℕ → (BaseView → Type 0) → Type 0
OfTheorem names files answers i holds = (view : BaseView) → IsReadIn names files answers view → is_proof_at view i ≡ true → holds view
