-- What a text means: words, and comments between them; or the first fault (the Metamath book, section 4.1.1).
--
-- A reading divides the runs of a text into words and comments. A text has the words of its reading. A text without
-- a reading has a fault: at the first run with which no reading goes on, or at a comment that is not ended.
use Rattle.std.specs.Prelude.{◌≡◌, ◌≢◌, ℕ, ◌<◌, ◌≤◌, ◌||◌, ◌&&◌, Bool, not, nat_le, List, [], ◌∷◌, ◌++◌, length, slice_range, Option, Some, None, All, AllPairs}
use Rattle.std.specs.Prelude.{Contains, position}
use Rattle.std.specs.List.{flat_map, AllByRecursion}
use Rattle.mm_text.specs.declared.word.Word.{Word}
use Rattle.mm_text.specs.declared.word.WordKind.{WordKind}
use Rattle.mm_text.specs.declared.fault.TextFault.{TextFault}
use Rattle.mm_text.specs.declared.fault.TextError.{TextError}
use Rattle.mm_text.specs.declared.fault.TextError.TheVariants as errors
use Rattle.mm_text.specs.declared.fault.TextNumber.{TextNumber}
use Rattle.mm_text.specs.declared.fault.TextNumber.TheVariants.{T01, T02, T03, T04, T05}
use Rattle.mm_text.specs.Language.Run.{Run, runs, is_white}
use Rattle.mm_text.specs.Language.Spelling.{IsWord, IsSpelled, HoldsMark, opening, closing}

-- a byte that a text may hold: a printable character other than the space (0x21 to 0x7E), or white space
unfoldable pub is_allowed : ℕ → Bool
is_allowed b = is_white b || nat_le 33 b && nat_le b 126

-- the number of the first byte that no text may hold, if there is such a byte
abbrev pub first_bad : List ℕ → Option ℕ
first_bad text = position (λ b. not (is_allowed b)) text

-- a part of a reading: a run that is one word, or a comment: the run that begins it, the runs inside it, and the run that ends it
pub data Segment : Type 0 where
  Single : Run → Word → Segment
  Comment : Run → List Run → Run → Segment

-- the runs of a part, in order
abbrev pub segment_runs : Segment → List Run
segment_runs (Single run word) = run ∷ []
segment_runs (Comment first inside last) = first ∷ (inside ++ last ∷ [])

-- the words of a part: a comment has none
abbrev pub segment_words : Segment → List Word
segment_words (Single run word) = word ∷ []
segment_words (Comment first inside last) = []

-- a comment goes from a run that is `$(` to a run that is `$)`, and no run between them holds one of these
pub record IsComment (first : Run) (inside : List Run) (last : Run) : Type 0 where
  pub opened : first.bytes ≡ opening
  pub no_marks : AllByRecursion (λ run. ¬ HoldsMark run.bytes) inside
  pub closed : last.bytes ≡ closing

-- a part of a reading is right: the word is what its run spells, or the runs are a comment
abbrev pub IsSegment : Segment → Type 0
IsSegment (Single run word) = IsWord run word
IsSegment (Comment first inside last) = IsComment first inside last

-- the runs are read as these words: they are divided into words and comments, in order, and nothing is left; comments give no words
pub record AreWords (runs : List Run) (words : List Word) : Type 0 where
  pub parts : List Segment
  pub each : AllByRecursion IsSegment parts
  pub joined : flat_map segment_runs parts ≡ runs
  pub singles : flat_map segment_words parts ≡ words

-- the runs may still become those of a text that is read as words: some runs that begin with them are
abbrev pub AreViableRuns : List Run → Type 0
AreViableRuns runs = (more : List Run) × (found : List Word) × AreWords (runs ++ more) found

-- the runs end inside a comment that is still open; the runs before it are read as these words
pub record EndsInComment (runs : List Run) (found : List Word) : Type 0 where
  pub front : List Run
  pub first : Run
  pub inside : List Run
  pub joined : runs ≡ front ++ first ∷ inside
  pub before : AreWords front found
  pub opened : first.bytes ≡ opening
  pub no_marks : AllByRecursion (λ run. ¬ HoldsMark run.bytes) inside

-- why no reading goes on with a run after these. T03: it holds a mark inside a comment, but is not `$)`. T04: it is `$)`, and no
-- comment is open. T05: it holds a `$`, and is no keyword
abbrev pub IsRunNumber : TextNumber → List Run → Run → Type 0
IsRunNumber T03 front run = (found : List Word) × EndsInComment front found × HoldsMark run.bytes × (run.bytes ≢ closing)
IsRunNumber T04 front run = (found : List Word) × AreWords front found × (run.bytes ≡ closing)
IsRunNumber T05 front run =
    (found : List Word) × AreWords front found × Contains run.bytes 36 × (run.bytes ≢ closing) × ((kind : WordKind) → ¬ IsSpelled kind run.bytes)
IsRunNumber _ front run = ⊥

-- the run at this byte is the first with which no reading goes on, for the reason of this number
pub record StopsAtRun (runs : List Run) (number : TextNumber) (at : ℕ) : Type 0 where
  pub front : List Run
  pub run : Run
  pub rest : List Run
  pub joined : runs ≡ front ++ run ∷ rest
  pub place : at ≡ run.start
  pub goes_on : AreViableRuns front
  pub stops : ¬ AreViableRuns (front ++ run ∷ [])
  pub is_number : IsRunNumber number front run

-- the runs have no reading, though one may go on: they end inside a comment that begins at this byte
pub record EndsOpen (runs : List Run) (at : ℕ) : Type 0 where
  pub found : List Word
  pub comment : EndsInComment runs found
  pub place : at ≡ comment.first.start
  pub goes_on : AreViableRuns runs
  pub not_whole : (words : List Word) → ¬ AreWords runs words

-- the runs have the fault of this number at this byte: a comment that is not ended, or the first run with which no reading goes on
abbrev pub IsRunFault : List Run → TextNumber → ℕ → Type 0
IsRunFault runs T02 at = EndsOpen runs at
IsRunFault runs number at = StopsAtRun runs number at

-- the text has these words: each of its bytes is allowed, and its runs are read as these words
pub record HasWords (text : List ℕ) (words : List Word) : Type 0 where
  pub allowed : first_bad text ≡ None
  pub words_are : AreWords (runs text) words

-- the fault with this number, at this byte: the first bad byte; if there is none, the fault of the runs
abbrev pub IsWordsFaultAt : List ℕ → TextNumber → ℕ → Type 0
IsWordsFaultAt text T01 at = first_bad text ≡ Some at
IsWordsFaultAt text number at = (first_bad text ≡ None) × IsRunFault (runs text) number at

-- the text has this fault
abbrev pub IsWordsFault : List ℕ → TextFault → Type 0
IsWordsFault text fault = IsWordsFaultAt text fault.number fault.at

-- an error is the fault of the text, or memory
abbrev pub IsWordsError : List ℕ → TextError → Type 0
IsWordsError text (errors.Fault fault) = IsWordsFault text fault
IsWordsError text errors.Memory = Unit {0}

-- the bytes of the text from the word's start to its end spell it, and there is one at least
pub record LiesIn (text : List ℕ) (word : Word) : Type 0 where
  pub some : word.start < word.end
  pub within : word.end ≤ length text
  pub spelled : IsSpelled word.kind (slice_range text word.start word.end)

-- each word is in the text, and at least one byte is between it and each later word
pub record AreWithin (text : List ℕ) (words : List Word) : Type 0 where
  pub each : All (LiesIn text) words
  pub rising : AllPairs (λ earlier later. earlier.end < later.start) words

-- the fault is reported at a byte of the text
abbrev pub IsTextErrorIn : List ℕ → TextError → Type 0
IsTextErrorIn text (errors.Fault fault) = fault.at < length text
IsTextErrorIn text errors.Memory = Unit {0}
