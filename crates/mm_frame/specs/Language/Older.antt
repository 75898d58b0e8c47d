-- A base of files as they were, read in the files as they are (Metamath book, section 4.2).
use Rattle.std.specs.Prelude.{ℕ, List}
use Rattle.std.specs.List.{AllZip}
use Rattle.mm_store.specs.Language.FilesView.{FilesView}
use Rattle.mm_frame.specs.Language.Base.{BaseView}
use Rattle.mm_frame.specs.Language.Answering.{BaseAnswers, StandsLater}
use Rattle.mm_statement.specs.Language.Statement.{Says}

-- the answers are right of this base by any names that begin with these, and its items can be read in these files and say the same there
pub record IsOlder (names : List (List ℕ)) (files : FilesView) (answers : BaseAnswers) (base : BaseView) : Type 0 where
  pub later : StandsLater names base answers
  pub each : AllZip (Says files) answers.items base

-- there is a base of which the answers are right
abbrev pub HasOlder : List (List ℕ) → FilesView → BaseAnswers → Type 0
HasOlder names files answers = (base : BaseView) × IsOlder names files answers base
