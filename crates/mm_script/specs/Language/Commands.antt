-- The next command of a script, in the pending bytes: those that are read and not answered yet.
use Rattle.std.specs.Prelude.{◌≡◌, ◌≤◌, ◌+◌, ◌*◌, ◌⊎◌, ℕ, true, false, Option, unwrap_or, List, Contains, [], ◌∷◌, ◌++◌, length, map, drop, replicate, slice_range}
use Rattle.std.specs.Io.KnownBytes.{Consumes, IsAtEnd}
use Rattle.mm_text.specs.Language.Asked.{Asked, Insert, Replace, Delete, Move}
use Rattle.mm_script.specs.declared.command.PendingRange.{PendingRange}
use Rattle.mm_script.specs.declared.command.EditAt.{EditAt}
use Rattle.mm_script.specs.declared.command.EditAt.TheVariants as edits
use Rattle.mm_script.specs.declared.command.CommandAt.{CommandAt}
use Rattle.mm_script.specs.declared.command.CommandAt.TheVariants as code
use Rattle.mm_script.specs.declared.command.Complete.{Complete}
use Rattle.mm_script.specs.declared.input.Input.{Input}
use Rattle.mm_script.specs.declared.read_stream.Reading.{Reading}
use Rattle.mm_script.specs.Language.Script.{Command, Change, Batch, Report, Ask, End, EndsSo, Listed, command_bytes, IsGood, IsLongestReading, IsReadSoFar, EndsInLine}
use Rattle.mm_script.specs.Language.Stream.{calls_left}

-- the pending bytes
abbrev pub pending : Input → List ℕ
pending input = drop input.at input.bytes.items

-- what is left of a script: the pending bytes, and then what is left to be read, if that can be seen
abbrev pub rest_of_script : List ℕ → Option (List ℕ) → List ℕ
rest_of_script pending left = pending ++ unwrap_or left []

-- a bound on the steps to come: a step is a read call or a passed byte, and a call brings at most 4,096 bytes
abbrev pub to_come : {R : Type 0} → Input → Reading R → ℕ
to_come input reading = 4097 * calls_left reading + length (pending input)

-- some bytes came; with those that were pending, they are empty lines, which are passed, and the bytes that are pending now
pub record ReadsOn (old new : Input) (unread left : Option (List ℕ)) : Type 0 where
  pub part : List ℕ
  pub consumes : Consumes unread left part
  pub blanks : ℕ
  pub are : pending old ++ part ≡ replicate blanks 10 ++ pending new

-- the bytes of a part
abbrev pub bytes_of_part : List ℕ → PendingRange → List ℕ
bytes_of_part bytes part = slice_range bytes part.start part.end

-- the part is within the bytes
pub record IsPartWithin (bytes : List ℕ) (part : PendingRange) : Type 0 where
  pub ordered : part.start ≤ part.end
  pub within : part.end ≤ length bytes

-- the edit whose name and text are these parts of the bytes
abbrev pub edit_in : List ℕ → EditAt → Asked
edit_in bytes (edits.Insert file at text) = Insert (bytes_of_part bytes file) at (bytes_of_part bytes text)
edit_in bytes (edits.Replace file at text) = Replace (bytes_of_part bytes file) at (bytes_of_part bytes text)
edit_in bytes (edits.Delete file at) = Delete (bytes_of_part bytes file) at
edit_in bytes (edits.Move file at to) = Move (bytes_of_part bytes file) at to

-- the parts of the edit are within the bytes
abbrev pub IsEditWithin : List ℕ → EditAt → Type 0
IsEditWithin bytes (edits.Insert file at text) = IsPartWithin bytes file × IsPartWithin bytes text
IsEditWithin bytes (edits.Replace file at text) = IsPartWithin bytes file × IsPartWithin bytes text
IsEditWithin bytes (edits.Delete file at) = IsPartWithin bytes file
IsEditWithin bytes (edits.Move file at to) = IsPartWithin bytes file

-- these are the edits of a batch, in order, each with its parts within the bytes
pub record AreEditsIn (bytes : List ℕ) (found : List EditAt) (listed : List Listed) : Type 0 where
  pub within : (k : EditAt) → Contains found k → IsEditWithin bytes k
  pub are : map (λ one. one.edit) listed ≡ map (edit_in bytes) found

-- the command whose names, texts and labels are these parts of the bytes
abbrev pub IsCommandIn : List ℕ → CommandAt → Command → Type 0
IsCommandIn bytes (code.Change edit) command = IsEditWithin bytes edit × (command ≡ Change (edit_in bytes edit))
IsCommandIn bytes (code.Batch found) command = (listed : List Listed) × AreEditsIn bytes found.items listed × (command ≡ Batch listed)
IsCommandIn bytes code.Report command = command ≡ Report
IsCommandIn bytes (code.Ask question label) command = IsPartWithin bytes label × (command ≡ Ask question (bytes_of_part bytes label))

-- the bytes begin with the command, and it takes this many of them
pub record IsWholeCommand (bytes : List ℕ) (command : Command) (end : ℕ) : Type 0 where
  pub within : end ≤ length bytes
  pub are : bytes ≡ command_bytes command ++ drop end bytes

-- the bytes are all of the command but the last line feed, it takes this many of them, and nothing is left to read
pub record IsLast (bytes : List ℕ) (left : Option (List ℕ)) (command : Command) (end : ℕ) : Type 0 where
  pub at_end : IsAtEnd left
  pub in_line : EndsInLine command
  pub are : bytes ++ 10 ∷ [] ≡ command_bytes command
  pub all : end ≡ length bytes

-- the bytes begin with the whole command; or, at the end of the script, they are the command without its last line feed
abbrev pub IsWholeOrLast : List ℕ → Option (List ℕ) → Complete CommandAt → Command → Type 0
IsWholeOrLast bytes left next command =
    ((next.fed ≡ true) × IsWholeCommand bytes command next.end) ⊎ ((next.fed ≡ false) × IsLast bytes left command next.end)

-- the bytes begin with a command, or at the end of the script they are one without its last line feed
pub record IsNextCommand (bytes : List ℕ) (left : Option (List ℕ)) (next : Complete CommandAt) : Type 0 where
  pub command : Command
  pub good : IsGood command
  pub is_command : IsCommandIn bytes next.found command
  pub whole : IsWholeOrLast bytes left next command

-- these bytes begin with no command and no empty line, and the script has this end there
pub record StopsSo (bytes : List ℕ) (end : End) : Type 0 where
  pub reading : IsLongestReading bytes [] bytes
  pub ends : EndsSo bytes end

-- the bytes begin with no whole command and no empty line, whatever follows them
abbrev pub HasNoEntry : List ℕ → Type 0
HasNoEntry bytes = IsReadSoFar bytes [] bytes
