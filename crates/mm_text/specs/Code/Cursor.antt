-- What the code keeps of a cursor over the words of a text.
use Rattle.std.specs.Prelude.{◌≡◌, ℕ, List, [], ◌++◌, None, Ok, Err}
use Rattle.mm_text.specs.declared.cursor.WordCursor.TheInside.{Inside}
use Rattle.mm_text.specs.declared.word.Word.{Word}
use Rattle.mm_text.specs.Code.LeftToRight.{Read, read_runs}
use Rattle.mm_text.specs.Code.Reader.{runs_at}
use Rattle.mm_text.specs.Language.Reading.{HasWords}
use Rattle.mm_text.specs.Language.WordsLeft.{WordsLeft}

-- the words that are read, if there is no fault
abbrev pub words_read : Read → List Word
words_read (Ok words) = words
words_read (Err fault) = []

-- the words of a text from a byte on
abbrev pub words_from : List ℕ → ℕ → List Word
words_from text from = words_read (read_runs None (runs_at text from))

abbrev pub left_of : Inside → WordsLeft
left_of cursor = record { text = cursor.reader.text.now; words = words_from cursor.reader.text.now cursor.reader.from }

-- the words from a byte on are the last of those of the text
pub record AreLast (text : List ℕ) (from : ℕ) : Type 0 where
  pub whole : List Word
  pub front : List Word
  pub has_words : HasWords text whole
  pub divided : whole ≡ front ++ words_from text from
  pub no_fault : read_runs None (runs_at text from) ≡ Ok (words_from text from)

abbrev pub IsOver : Inside → Type 0
IsOver cursor = AreLast cursor.reader.text.now cursor.reader.from
