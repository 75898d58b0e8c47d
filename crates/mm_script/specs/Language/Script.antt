-- The script of a session: lines that each ask one thing of the files, some with a text or with further lines after them.
use Rattle.std.specs.Prelude.{◌≡◌, ◌≢◌, ◌≤◌, ◌==◌, ◌⊎◌, ℕ, Bool, not, ◌&&◌, IsTrue, Option, Some, None}
use Rattle.std.specs.Prelude.{List, [], ◌∷◌, ◌++◌, length, codes, decimal, replicate}
use Rattle.std.specs.List.{AllByRecursion, flat_map, filter_map, list_all, join_with_byte}
use Rattle.mm_text.specs.Language.Asked.{Asked, Insert, Replace, Delete, Move, edited_text}
use Rattle.mm_script.specs.declared.command.Question.{Question}
use Rattle.mm_script.specs.declared.command.Question.TheVariants.{Verdict, Axioms, Cites, Users}

-- An edit of a batch, and how many empty lines come before it.
pub record Listed : Type 0 where
  pub blanks : ℕ
  pub edit : Asked

-- What a command asks: for an edit, or for several at once; for the report; or for the answer to a question about the assertion with a label.
pub data Command : Type 0 where
  Change : Asked → Command
  Batch : List Listed → Command
  Report : Command
  Ask : Question → List ℕ → Command

-- the words of the line of an edit; if a text comes after the line, its last word counts the bytes of the text
abbrev pub edit_words : Asked → List (List ℕ)
edit_words (Insert file at text) = codes "insert" ∷ file ∷ decimal at ∷ decimal (length text) ∷ []
edit_words (Replace file at text) = codes "replace" ∷ file ∷ decimal at ∷ decimal (length text) ∷ []
edit_words (Delete file at) = codes "delete" ∷ file ∷ decimal at ∷ []
edit_words (Move file at to) = codes "move" ∷ file ∷ decimal at ∷ decimal to ∷ []

-- the word of a question
abbrev pub question_word : Question → List ℕ
question_word Verdict = codes "verdict"
question_word Axioms = codes "axioms"
question_word Cites = codes "cites"
question_word Users = codes "users"

-- the words of the line of a command
abbrev pub command_words : Command → List (List ℕ)
command_words (Change edit) = edit_words edit
command_words (Batch edits) = codes "batch" ∷ decimal (length edits) ∷ []
command_words Report = codes "report" ∷ []
command_words (Ask question label) = question_word question ∷ label ∷ []

-- the line of an edit: its words, with one space between each two
abbrev pub edit_line : Asked → List ℕ
edit_line edit = join_with_byte 32 (edit_words edit)

-- the line of a command: its words, with one space between each two
abbrev pub line_of : Command → List ℕ
line_of command = join_with_byte 32 (command_words command)

-- a text, if there is one, and a line feed after it
abbrev pub ended_text : Option (List ℕ) → List ℕ
ended_text None = []
ended_text (Some text) = text ++ 10 ∷ []

-- the bytes of an edit: its line with a line feed, and its text with a line feed if it has one
abbrev pub edit_bytes : Asked → List ℕ
edit_bytes edit = edit_line edit ++ 10 ∷ ended_text (edited_text edit)

-- the bytes of an edit of a batch, with the empty lines before it
abbrev pub listed_bytes : Listed → List ℕ
listed_bytes listed = replicate listed.blanks 10 ++ edit_bytes listed.edit

-- what comes after the line of a command and its line feed: the text of an edit, or the edits of a batch
abbrev pub behind_line : Command → List ℕ
behind_line (Change edit) = ended_text (edited_text edit)
behind_line (Batch edits) = flat_map listed_bytes edits
behind_line _ = []

-- the bytes of a command: its line with a line feed, and what comes after it
abbrev pub command_bytes : Command → List ℕ
command_bytes command = line_of command ++ 10 ∷ behind_line command

-- a byte of a word: neither a space nor a line feed
abbrev pub is_word_byte : ℕ → Bool
is_word_byte b = not (b == 32) && not (b == 10)

-- a name of a file, or a label, that a line can have: some bytes, and no space or line feed among them
pub record IsName (name : List ℕ) : Type 0 where
  pub some : name ≢ []
  pub bytes : IsTrue (list_all is_word_byte name)

-- a number that a line can have: up to 4,294,967,295
abbrev pub IsNumber : ℕ → Type 0
IsNumber n = n ≤ 4294967295

-- an edit that a line can ask for: its name and its numbers are such as lines can have
abbrev pub IsGoodEdit : Asked → Type 0
IsGoodEdit (Insert file at text) = IsName file × IsNumber at × IsNumber (length text)
IsGoodEdit (Replace file at text) = IsName file × IsNumber at × IsNumber (length text)
IsGoodEdit (Delete file at) = IsName file × IsNumber at
IsGoodEdit (Move file at to) = IsName file × IsNumber at × IsNumber to

-- a command that lines can ask for
abbrev pub IsGood : Command → Type 0
IsGood (Change edit) = IsGoodEdit edit
IsGood (Batch edits) = IsNumber (length edits) × AllByRecursion (λ listed. IsGoodEdit listed.edit) edits
IsGood Report = Unit {0}
IsGood (Ask question label) = IsName label

-- the last edit of a batch has no text
abbrev pub LastInLine : List Listed → Type 0
LastInLine [] = Unit {0}
LastInLine (listed ∷ []) = edited_text listed.edit ≡ None
LastInLine (listed ∷ edits) = LastInLine edits

-- a command that ends in a line, and not in a text
abbrev pub EndsInLine : Command → Type 0
EndsInLine (Change edit) = edited_text edit ≡ None
EndsInLine (Batch edits) = LastInLine edits
EndsInLine _ = Unit {0}

-- What a script is made of: empty lines, and commands.
pub data Entry : Type 0 where
  Blank : Entry
  Given : Command → Entry

-- the bytes of an entry; an empty line is a line feed
abbrev pub entry_bytes : Entry → List ℕ
entry_bytes Blank = 10 ∷ []
entry_bytes (Given command) = command_bytes command

-- an empty line, or a command that lines can ask for
abbrev pub IsGoodEntry : Entry → Type 0
IsGoodEntry Blank = Unit {0}
IsGoodEntry (Given command) = IsGood command

-- the bytes of entries, one after another
abbrev pub entries_bytes : List Entry → List ℕ
entries_bytes entries = flat_map entry_bytes entries

-- the command of an entry; an empty line has none
abbrev pub command_of : Entry → Option Command
command_of Blank = None
command_of (Given command) = Some command

-- the commands among the entries, in order
abbrev pub commands_of : List Entry → List Command
commands_of entries = filter_map command_of entries

-- the script is these entries without the line feed after the last of them, which would end a line and not a text
pub record LacksFeed (script : List ℕ) (entries : List Entry) : Type 0 where
  pub front : List Entry
  pub last : Command
  pub are : entries ≡ front ++ Given last ∷ []
  pub in_line : EndsInLine last
  pub is : script ++ 10 ∷ [] ≡ entries_bytes entries

-- the script is these empty lines and commands, and then a rest; its last line may be without a line feed, if no text has to follow it
pub record HasEntries (script : List ℕ) (entries : List Entry) (rest : List ℕ) : Type 0 where
  pub good : AllByRecursion IsGoodEntry entries
  pub joined : (script ≡ entries_bytes entries ++ rest) ⊎ (LacksFeed script entries × (rest ≡ []))

-- the reading of a script: the longest list of commands and empty lines with which it begins, and the rest
pub record IsLongestReading (script : List ℕ) (entries : List Entry) (rest : List ℕ) : Type 0 where
  pub divided : HasEntries script entries rest
  pub longest : (others : List Entry) (left : List ℕ) → HasEntries script others left → length others ≤ length entries

-- the bytes are these entries, each with all its line feeds, and then a rest
pub record AreRead (bytes : List ℕ) (entries : List Entry) (rest : List ℕ) : Type 0 where
  pub good : AllByRecursion IsGoodEntry entries
  pub joined : bytes ≡ entries_bytes entries ++ rest

-- the bytes are the longest list of complete entries, and then a rest: these are complete, whatever follows the bytes
pub record IsReadSoFar (bytes : List ℕ) (entries : List Entry) (rest : List ℕ) : Type 0 where
  pub are : AreRead bytes entries rest
  pub longest : (others : List Entry) (left : List ℕ) → AreRead bytes others left → length others ≤ length entries

-- what is left of a script is cut short: with a line feed after it, it begins a command that lines can ask for
pub record IsCutShort (rest : List ℕ) : Type 0 where
  pub command : Command
  pub good : IsGood command
  pub missing : List ℕ
  pub is : rest ++ 10 ∷ missing ≡ command_bytes command

-- How a script ends: done, cut short, or at a bad line.
pub data End : Type 0 where
  Done : End
  CutShort : End
  BadLine : End

-- how a script with this rest ends: done if nothing is left; cut short if a text or edits are incomplete; and else at a bad line
abbrev pub EndsSo : List ℕ → End → Type 0
EndsSo rest Done = rest ≡ []
EndsSo rest CutShort = IsCutShort rest
EndsSo rest BadLine = (rest ≢ []) × ¬ IsCutShort rest
