-- Some scripts, and how they are read.
use Rattle.std.specs.Prelude.{◌≡◌, ℕ, true, List, Some, [], ◌∷◌, ⊤, codes}
use Rattle.std.specs.declared.io.buffered.BufWriter.{BufWriter}
use Rattle.std.specs.Io.Buffered.{writer_buffer, writer_contents, writer_inner}
use Rattle.mm_text.specs.Language.Asked.{Replace, Delete, Insert, Move}
use Rattle.mm_script.specs.declared.command.Question.TheVariants.{Verdict, Axioms, Cites, Users}
use Rattle.mm_script.specs.Language.Script.{Change, Batch, Report, Ask, Blank, Given, Done, CutShort, BadLine}
use Rattle.mm_script.specs.Language.Script.{IsGood, IsReadSoFar, commands_of}
use Rattle.mm_script.specs.Language.ReadingLaws.{IsReadSo}
use Rattle.mm_script.specs.Language.Stream.{AppendsPart, gone_out, has_failed, written}

-- A text of two lines, and the line feed after it; the last line of the script may be without one.
abbrev pub ReadsText : Type 0
ReadsText = IsReadSo (codes "replace d.mm 7 15\n$c a $.\n$c b $.\n\nverdict t\nusers a1\n\naxioms t")
    (Given (Change (Replace (codes "d.mm") 7 (codes "$c a $.\n$c b $."))) ∷ Blank ∷ Given (Ask Verdict (codes "t")) ∷ Given (Ask Users (codes "a1")) ∷ Blank
    ∷ Given (Ask Axioms (codes "t")) ∷ [])
    [] Done

-- A batch of two edits with an empty line before the second, and a command after it.
abbrev pub ReadsBatch : Type 0
ReadsBatch = IsReadSo (codes "batch 2\ninsert a.mm 5 8\n$c a $.\n\n\nmove a.mm 9 10\nreport\n")
    (Given (Batch (record { blanks = 0; edit = Insert (codes "a.mm") 5 (codes "$c a $.\n") } ∷ record { blanks = 1; edit = Move (codes "a.mm") 9 10 } ∷ []))
    ∷ Given Report ∷ [])
    [] Done

-- The last edit of a batch may be without its line feed, if it has no text.
abbrev pub ReadsLastEdit : Type 0
ReadsLastEdit = IsReadSo (codes "batch 1\ndelete a.mm 0") (Given (Batch (record { blanks = 0; edit = Delete (codes "a.mm") 0 } ∷ [])) ∷ []) [] Done

-- Inside a text a script is cut short: nothing of it is read, and all of it is left.
abbrev pub CutsText : Type 0
CutsText = IsReadSo (codes "insert a.mm 0 9\nabc") [] (codes "insert a.mm 0 9\nabc") CutShort

-- If only the line feed after a text is missing, a script is cut short, too; the command before it is read.
abbrev pub CutsFeed : Type 0
CutsFeed = IsReadSo (codes "report\ninsert a.mm 0 3\nabc") (Given Report ∷ []) (codes "insert a.mm 0 3\nabc") CutShort

-- After the line of an edit whose text has no bytes, a script is cut short, too.
abbrev pub CutsLine : Type 0
CutsLine = IsReadSo (codes "insert a.mm 0 0") [] (codes "insert a.mm 0 0") CutShort

-- A script is cut short if edits of a batch are missing.
abbrev pub CutsBatch : Type 0
CutsBatch = IsReadSo (codes "batch 2\ndelete a.mm 0\n\n") [] (codes "batch 2\ndelete a.mm 0\n\n") CutShort

-- A script is cut short if the line feed after the text of the last edit of a batch is missing.
abbrev pub CutsBatchText : Type 0
CutsBatchText = IsReadSo (codes "batch 1\ninsert a.mm 0 3\nabc") [] (codes "batch 1\ninsert a.mm 0 3\nabc") CutShort

-- But if the last line of a batch is no edit, the batch is a bad line.
abbrev pub EndsInEdit : Type 0
EndsInEdit = IsReadSo (codes "batch 2\ndelete a.mm 0\ndel") [] (codes "batch 2\ndelete a.mm 0\ndel") BadLine

-- A bad line ends a script, and nothing after it is read.
abbrev pub EndsAtLine : Type 0
EndsAtLine = IsReadSo (codes "verdict th\nbogus\nreport\n") (Given (Ask Verdict (codes "th")) ∷ []) (codes "bogus\nreport\n") BadLine

-- An edit whose text is followed by another byte than a line feed is a bad line.
abbrev pub EndsAtText : Type 0
EndsAtText = IsReadSo (codes "insert a.mm 0 3\nabcd\n") [] (codes "insert a.mm 0 3\nabcd\n") BadLine

-- Of bytes that may go on, a last line is not read before its line feed is there. Of a whole script, it is.
pub record WaitsForFeed : Type 0 where
  pub so_far : IsReadSoFar (codes "report\n\ncites t") (Given Report ∷ Blank ∷ []) (codes "cites t")
  pub whole : IsReadSo (codes "report\n\ncites t") (Given Report ∷ Blank ∷ Given (Ask Cites (codes "t")) ∷ []) [] Done

-- The commands of some entries.
abbrev pub HasTwoCommands : Type 0
HasTwoCommands = commands_of (Given Report ∷ Blank ∷ Given (Ask Cites (codes "t")) ∷ []) ≡ Report ∷ Ask Cites (codes "t") ∷ []

-- The largest number that a line can have, and what no label is.
pub record BoundWords : Type 0 where
  pub largest : IsGood (Change (Delete (codes "a.mm") 4294967295))
  pub too_large : ¬ IsGood (Change (Delete (codes "a.mm") 4294967296))
  pub empty : ¬ IsGood (Ask Verdict [])
  pub spaced : ¬ IsGood (Ask Verdict (codes "a b"))
  pub broken : ¬ IsGood (Ask Verdict (codes "a\nb"))

-- What is written grows by the first two of four bytes. It does not grow by the fourth alone.
pub record GrowsByTwo : Type 0 where
  pub first : AppendsPart (Some (codes "ab")) (Some (codes "abcd")) (codes "cdef")
  pub other : ¬ AppendsPart (Some (codes "ab")) (Some (codes "abf")) (codes "cdef")

-- A writer has taken `ab`, and a call of it has failed. If a buffer before it keeps back `cd`, these are written, too, but have not gone out.
pub record TellsWriter : Type 0 where
  pub taken : written (λ (out : List ℕ). Some out) (record { inner = codes "ab"; calls = 3; failed = true }) ≡ Some (codes "ab")
  pub fails : has_failed {W = List ℕ} (record { inner = codes "ab"; calls = 3; failed = true }) ≡ true
  pub kept_back : (buffer : BufWriter (List ℕ) ⊤) → writer_inner buffer ≡ codes "ab" → writer_buffer buffer ≡ codes "cd"
      → (written (writer_contents (λ out. Some out)) (record { inner = buffer; calls = 3; failed = true }) ≡ Some (codes "abcd"))
      × (gone_out (λ out. Some out) (record { inner = buffer; calls = 3; failed = true }) ≡ Some (codes "ab"))
