-- What is proved of reports: each is the contract of a function.
use Rattle.std.specs.Prelude.{◌≡◌, ◌<◌, ℕ, true, List, [], length}
use Rattle.mm_keep.specs.mm_statement.Language.Database.{Located, IsDatabase}
use Rattle.mm_keep.specs.mm_statement.Language.Item.{Theorem}
use Rattle.mm_keep.specs.mm_frame.Language.Base.{BaseView, base_of, is_sound_at, said_at}
use Rattle.mm_keep.specs.Language.Derivable.{IsDerivableAt}
use Rattle.mm_keep.specs.Language.Laws.{IsOneAnswer}
use Rattle.mm_keep.specs.Language.Sessions.{SessionView}
use Rattle.mm_keep.specs.Language.Told.{Told, AreRightlyTold}
use Rattle.mm_report.specs.Language.Report.{IsReport, lines, names_of}

-- A session has one report.
abbrev pub OneReport : Type 0
OneReport = IsOneAnswer IsReport

-- the item with this number has no fault, and if it is a `$p`, some labels derive its statement
pub record IsInOrder (base : BaseView) (i : ℕ) : Type 0 where
  pub sound : is_sound_at base i ≡ true
  pub derivable : (said_at base i).kind ≡ Theorem → IsDerivableAt base i

-- If a report has no line before its summary, no item is at fault, and some labels derive the statement of each `$p`.
abbrev pub CleanIsDerived : Type 0
CleanIsDerived = (session : SessionView) (items : List Located) (all : List Told) → IsDatabase session.files session.top items
    → AreRightlyTold session.files items all → lines (names_of session.files) (base_of items) all ≡ []
    → (i : ℕ) → i < length items → IsInOrder (base_of items) i
