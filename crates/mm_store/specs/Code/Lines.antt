-- The lines of bytes: the line feeds among them, and the bytes after the last of these. Where pieces begin.
use Rattle.std.specs.Prelude.{◌≡◌, ℕ, ◌+◌, ◌*◌, ◌/◌, ◌<◌, ◌≤◌, List, [], ◌++◌, length, take, count_by, slice_index_or}
use Rattle.std.specs.List.{after_last, concat}
use Rattle.mm_text.specs.Language.Place.{is_line_feed}
use Rattle.mm_store.specs.declared.line_feeds.Lines.{Lines}
use Rattle.mm_store.specs.declared.start.Start.{Start}

-- these are the lines of the bytes
pub record AreLines (bytes : List ℕ) (lines : Lines) : Type 0 where
  pub feeds : lines.feeds ≡ count_by is_line_feed bytes
  pub behind : lines.behind ≡ length (after_last is_line_feed bytes)

-- these are the lines of bytes and of others after them, which together are no more than files may have
pub record Follow (lines later : Lines) : Type 0 where
  pub first : List ℕ
  pub second : List ℕ
  pub are_lines : AreLines first lines
  pub are_later : AreLines second later
  pub small : length first + length second ≤ 4294967295

-- the marks of a text: the lines of its first kilobyte, of its first two, and so on, as far as it has whole ones
pub record AreLineMarks (text : List ℕ) (marks : List Lines) : Type 0 where
  pub many : length marks ≡ length text / 1024
  pub each : (number : ℕ) (default : Lines) → number < length marks → AreLines (take ((number + 1) * 1024) text) (slice_index_or marks number default)

-- a piece begins after these bytes of its file
pub record IsStart (before : List ℕ) (start : Start) : Type 0 where
  pub bytes : start.bytes ≡ length before
  pub lines : AreLines before start.lines

-- a text and what comes before it are together no more than files may have
pub record StaysSmall (start : Start) (text : List ℕ) : Type 0 where
  pub before : List ℕ
  pub is_start : IsStart before start
  pub small : length before + length text ≤ 4294967295

-- where these texts begin in their file, from the first up to the one with this number
abbrev pub AreStartsTo : ℕ → List (List ℕ) → List Start → Type 0
AreStartsTo last texts starts = (number : ℕ) (default : Start) → number ≤ last → IsStart (concat (take number texts)) (slice_index_or starts number default)

-- where pieces with these texts begin in their file, and where the tail does
abbrev pub AreStarts : List (List ℕ) → List Start → Type 0
AreStarts texts starts = AreStartsTo (length texts) texts starts

-- the bytes of joined texts before a byte of one of them
abbrev pub bytes_before : List (List ℕ) → ℕ → ℕ → List ℕ
bytes_before texts number at = concat (take number texts) ++ take at (slice_index_or texts number [])
