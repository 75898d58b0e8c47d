-- A reader, and what its steps do.
use Rattle.std.specs.Prelude.{◌≡◌, ◌≢◌, ◌⊎◌, ℕ, ◌<◌, ◌≤◌, true, false, List, [], ◌∷◌, ◌++◌, drop, slice_range, Option, None, Result, MatchOption, MatchResult}
use Rattle.std.specs.List.{AllByRecursion}
use Rattle.mm_text.specs.declared.reader.Span.{Span}
use Rattle.mm_text.specs.declared.word.Word.{Word}
use Rattle.mm_text.specs.declared.fault.TextFault.{TextFault}
use Rattle.mm_text.specs.declared.fault.TextNumber.{TextNumber}
use Rattle.mm_text.specs.declared.fault.TextNumber.TheVariants.{T02, T03, T04, T05}
use Rattle.mm_text.specs.Language.Run.{Run, runs_from, ends_run}
use Rattle.mm_text.specs.Language.Spelling.{HoldsMark, IsWord, opening, closing}
use Rattle.mm_text.specs.Language.Reading.{AreWords, EndsInComment}
use Rattle.mm_text.specs.Code.LeftToRight.{word_kind, has_dollar}

-- none of the runs inside a comment holds `$(` or `$)`
abbrev pub HoldNoMarks : List Run → Type 0
HoldNoMarks inside = AllByRecursion (λ run. ¬ HoldsMark run.bytes) inside

-- the runs of a text from a byte on
abbrev pub runs_at : List ℕ → ℕ → List Run
runs_at text from = runs_from from (drop from text)

-- the run of a text that is found at these bytes
abbrev pub run_of : List ℕ → Span → Run
run_of text span = record { start = span.start; bytes = slice_range text span.start span.end }

-- the next run is taken
pub record TakesSpan (text : List ℕ) (from : ℕ) (span : Span) (to : ℕ) : Type 0 where
  pub begins : from ≤ span.start
  pub some : span.start < span.end
  pub next : to ≡ span.end
  pub run : runs_at text from ≡ run_of text span ∷ runs_at text to
  pub here : runs_at text span.start ≡ run_of text span ∷ runs_at text to
  pub ends : ends_run (drop to text) ≡ true

abbrev pub TakesRun : List ℕ → ℕ → Option Span → ℕ → Type 0
TakesRun text from result to = MatchOption result (runs_at text from ≡ []) (λ span. TakesSpan text from span to)

-- runs without a `$` are passed over
abbrev pub ArePlain : List Run → Type 0
ArePlain runs = AllByRecursion (λ run. has_dollar run.bytes ≡ false) runs

pub record SkipsPlain (text : List ℕ) (from to : ℕ) : Type 0 where
  pub inside : List Run
  pub joined : runs_at text from ≡ inside ++ runs_at text to
  pub plain : ArePlain inside

-- the rest of a comment is skipped
pub record SkipsComment (text : List ℕ) (from to : ℕ) : Type 0 where
  pub inside : List Run
  pub last : Run
  pub joined : runs_at text from ≡ inside ++ last ∷ runs_at text to
  pub no_marks : HoldNoMarks inside
  pub closed : last.bytes ≡ closing

-- a run at which the rest of a comment cannot go on
pub record MeetsMark (runs : List Run) (at : ℕ) : Type 0 where
  pub inside : List Run
  pub run : Run
  pub rest : List Run
  pub joined : runs ≡ inside ++ run ∷ rest
  pub no_marks : HoldNoMarks inside
  pub holds : HoldsMark run.bytes
  pub differs : run.bytes ≢ closing
  pub place : at ≡ run.start

-- the rest of a comment that begins at a byte has this fault
abbrev pub FailsInside : List Run → ℕ → TextNumber → ℕ → Type 0
FailsInside runs start T02 at = HoldNoMarks runs × (at ≡ start)
FailsInside runs start T03 at = MeetsMark runs at
FailsInside runs start _ at = ⊥

abbrev pub EndsComment : List ℕ → ℕ → ℕ → Result (Unit {0}) TextFault → ℕ → Type 0
EndsComment text from start result to = MatchResult result (λ _. SkipsComment text from to)
    (λ fault. FailsInside (runs_at text from) start fault.number fault.at)

-- the bytes of a word as a run
abbrev pub run_between : List ℕ → ℕ → ℕ → Run
run_between text start end = record { start = start; bytes = slice_range text start end }

-- comments are read, and then a word
pub record TakesWord (text : List ℕ) (from : ℕ) (word : Word) (to : ℕ) : Type 0 where
  pub taken : List Run
  pub joined : runs_at text from ≡ taken ++ runs_at text to
  pub reads : AreWords taken (word ∷ [])
  pub here : runs_at text word.start ≡ run_between text word.start word.end ∷ runs_at text to
  pub is_word : IsWord (run_between text word.start word.end) word
  pub begins : from ≤ word.start
  pub some : word.start < word.end
  pub next : to ≡ word.end
  pub ends : ends_run (drop to text) ≡ true

-- how the runs are read up to here: as these words, or as these words and a comment after them that is still open
abbrev pub HoldWords : List Run → List Word → Type 0
HoldWords runs found = AreWords runs found ⊎ EndsInComment runs found

-- why a run cannot follow runs that are read as these words: it has the fault with this number
abbrev pub IsRunRefused : TextNumber → List Run → List Word → Run → Type 0
IsRunRefused T03 front found run = EndsInComment front found × HoldsMark run.bytes × (run.bytes ≢ closing)
IsRunRefused T04 front found run = AreWords front found × (run.bytes ≡ closing)
IsRunRefused T05 front found run = AreWords front found × (run.bytes ≢ opening) × (run.bytes ≢ closing) × (word_kind run.bytes ≡ None)
IsRunRefused _ front found run = ⊥

pub record MeetsRun (runs : List Run) (found : List Word) (number : TextNumber) (at : ℕ) : Type 0 where
  pub front : List Run
  pub run : Run
  pub rest : List Run
  pub joined : runs ≡ front ++ run ∷ rest
  pub place : at ≡ run.start
  pub refused : IsRunRefused number front found run

-- the runs have this fault after these words
abbrev pub FailsBehind : List Run → List Word → TextNumber → ℕ → Type 0
FailsBehind runs found T02 at = (h : EndsInComment runs found) × (at ≡ h.first.start)
FailsBehind runs found number at = MeetsRun runs found number at

-- a word is read; or only comments are left; or a fault is met
abbrev pub GivesWord : List ℕ → ℕ → Result (Option Word) TextFault → ℕ → Type 0
GivesWord text from result to = MatchResult result (λ o. MatchOption o (AreWords (runs_at text from) [])
    (λ word. TakesWord text from word to)) (λ fault. FailsBehind (runs_at text from) [] fault.number fault.at)
