-- How the bytes of a script that are read and not answered grow as it is read on, and lines and texts in them.
use Rattle.std.specs.Prelude.{◌≡◌, ◌≢◌, ◌≤◌, ◌+◌, ℕ, true, false, Option}
use Rattle.std.specs.Prelude.{None, List, ◌∷◌, ◌++◌, ◌-◌, length, drop, replicate, slice_range}
use Rattle.std.specs.Io.KnownBytes.{Consumes, IsAtEnd}
use Rattle.mm_text.specs.Language.Asked.{Asked, edited_text}
use Rattle.mm_script.specs.declared.command.Complete.{Complete}
use Rattle.mm_script.specs.declared.command.EditAt.{EditAt}
use Rattle.mm_script.specs.declared.input.Input.{Input}
use Rattle.mm_script.specs.declared.script_lines.LineAt.{LineAt}
use Rattle.mm_script.specs.Language.Commands.{pending, edit_in, IsEditWithin}
use Rattle.mm_script.specs.Code.Stops.{IsOneLine, HasTextOf}
use Rattle.mm_script.specs.Language.Script.{IsGoodEdit, edit_bytes, edit_line}

-- bytes are read on, after those that were there
pub record InputGrows (old new : Input) (unread left : Option (List ℕ)) : Type 0 where
  pub part : List ℕ
  pub consumes : Consumes unread left part
  pub are : pending new ≡ pending old ++ part

-- the bytes of a line
abbrev pub line_bytes : List ℕ → LineAt → List ℕ
line_bytes bytes line = slice_range bytes line.start line.end

-- there is a line here, and after it its line feed, or nothing is left to read
pub record IsLineAt (bytes : List ℕ) (left : Option (List ℕ)) (line : LineAt) : Type 0 where
  pub ordered : line.start ≤ line.end
  pub within : line.end ≤ length bytes
  pub one_line : IsOneLine (line_bytes bytes line)
  pub fed : line.fed ≡ true → drop line.end bytes ≡ 10 ∷ drop (line.end + 1) bytes
  pub unfed : line.fed ≡ false → (line.end ≡ length bytes) × IsAtEnd left

-- there is another byte here than a line feed
pub record IsOtherByte (bytes : List ℕ) (at : ℕ) : Type 0 where
  pub byte : ℕ
  pub more : List ℕ
  pub other : byte ≢ 10
  pub are : drop at bytes ≡ byte ∷ more

-- only empty lines are between one place and another
pub record HasBlanks (bytes : List ℕ) (from to : ℕ) : Type 0 where
  pub ordered : from ≤ to
  pub within : to ≤ length bytes
  pub are : drop from bytes ≡ replicate (to - from) 10 ++ drop to bytes

-- empty lines, and then a line that is not ended
pub record IsLineBegun (bytes : List ℕ) (from : ℕ) : Type 0 where
  pub start : ℕ
  pub blanks : HasBlanks bytes from start
  pub one_line : IsOneLine (drop start bytes)

-- there is an edit here up to its end, or up to the end of all, if it has no text and no line feed
pub record IsEditRead (bytes : List ℕ) (left : Option (List ℕ)) (start : ℕ) (read : Complete EditAt) : Type 0 where
  pub good : IsGoodEdit (edit_in bytes read.found)
  pub parts : IsEditWithin bytes read.found
  pub ordered : start ≤ read.end
  pub within : read.end ≤ length bytes
  pub fed : read.fed ≡ true → drop start bytes ≡ edit_bytes (edit_in bytes read.found) ++ drop read.end bytes
  pub unfed : read.fed ≡ false → (drop start bytes ≡ edit_line (edit_in bytes read.found)) × (edited_text (edit_in bytes read.found) ≡ None)
      × IsAtEnd left × (read.end ≡ length bytes)

-- the line of an edit, and not all of its text or not the line feed after it
pub record IsTextShort (bytes : List ℕ) : Type 0 where
  pub edit : Asked
  pub count : ℕ
  pub part : List ℕ
  pub has : HasTextOf edit count
  pub short : length part ≤ count
  pub are : bytes ≡ edit_line edit ++ 10 ∷ part

-- the line of an edit that has a text
pub record IsTextLine (bytes : List ℕ) : Type 0 where
  pub edit : Asked
  pub count : ℕ
  pub has : HasTextOf edit count
  pub are : bytes ≡ edit_line edit

-- the line of an edit, its text and another byte than a line feed
pub record IsTextBad (bytes : List ℕ) : Type 0 where
  pub edit : Asked
  pub count : ℕ
  pub text : List ℕ
  pub byte : ℕ
  pub more : List ℕ
  pub has : HasTextOf edit count
  pub is : length text ≡ count
  pub other : byte ≢ 10
  pub are : bytes ≡ edit_line edit ++ 10 ∷ (text ++ byte ∷ more)
