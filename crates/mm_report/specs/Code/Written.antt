-- How far a report is written.
use Rattle.std.specs.Prelude.{◌≡◌, ℕ, true, Option, Some, List, length, take, slice_get}
use Rattle.std.specs.Io.KnownBytes.{Appends}
use Rattle.mm_keep.specs.mm_store.Language.FilesView.{File}
use Rattle.mm_keep.specs.mm_statement.Language.Database.{Located, IsDatabase}
use Rattle.mm_keep.specs.mm_frame.Language.Base.{base_of}
use Rattle.mm_keep.specs.Language.Sessions.{SessionView}
use Rattle.mm_keep.specs.Language.Told.{Told, IsRightlyTold, Counts, counts}
use Rattle.mm_script.specs.declared.stream.Writing.{Writing}
use Rattle.mm_report.specs.Language.Report.{lines, names_of, BeginsReport}
use Rattle.mm_script.specs.Language.Stream.{written, has_failed}

-- this many items are rightly reported
pub record ToldUpTo (files : List File) (items : List Located) (n : ℕ) (all : List Told) : Type 0 where
  pub count : length all ≡ n
  pub each : (k : ℕ) (one : Told) → slice_get all k ≡ Some one → IsRightlyTold files items k one

-- the lines of this many items are written, of which this is reported and counted
pub record AreWritten (session : SessionView) (items : List Located) (n : ℕ) (old new : Option (List ℕ)) (tally : Counts) : Type 0 where
  pub all : List Told
  pub are_told : ToldUpTo session.files items n all
  pub appends : Appends old new (lines (names_of session.files) (take n (base_of items)) all)
  pub are_counted : tally ≡ counts all

-- this holds of whatever are the items of the session
abbrev pub AreWrittenUpTo : SessionView → ℕ → Option (List ℕ) → Option (List ℕ) → Counts → Type 0
AreWrittenUpTo session n old new tally = (items : List Located) → IsDatabase session.files session.top items → AreWritten session items n old new tally

-- the lines of all items are written, which are those of the session
abbrev pub AreAllWritten : SessionView → Option (List ℕ) → Option (List ℕ) → Counts → Type 0
AreAllWritten session old new tally =
    (items : List Located) × IsDatabase session.files session.top items × AreWritten session items (length items) old new tally

-- a write has failed, after the beginning of the report
pub record FailsWithin {W : Type 0} (contents : W → Option (List ℕ)) (session : SessionView) (old new : Writing W) : Type 0 where
  pub failed : has_failed new ≡ true
  pub begins : BeginsReport session (written contents old) (written contents new)
