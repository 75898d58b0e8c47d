-- Lines that are those of no command, and what a command is before it is whole.
use Rattle.std.specs.Prelude.{◌≡◌, ◌≢◌, ◌<◌, ℕ, Some, List, [], ◌∷◌, ◌++◌, length, codes, decimal, replicate}
use Rattle.std.specs.List.{AllByRecursion, flat_map, join_with_byte}
use Rattle.mm_text.specs.Language.Asked.{Asked, edited_text}
use Rattle.mm_script.specs.Language.Script.{Command, Entry, IsGood, IsGoodEdit, IsGoodEntry, IsNumber}
use Rattle.mm_script.specs.Language.Script.{Listed, listed_bytes, line_of, edit_line}

-- bytes of one line
abbrev pub IsOneLine : List ℕ → Type 0
IsOneLine bytes = AllByRecursion (λ b. b ≢ 10) bytes

-- each edit of a batch is one that a line can ask for
abbrev pub AreGoodEdits : List Listed → Type 0
AreGoodEdits edits = AllByRecursion (λ listed. IsGoodEdit listed.edit) edits

-- each entry is an empty line or a command that lines can ask for
abbrev pub AreGood : List Entry → Type 0
AreGood entries = AllByRecursion IsGoodEntry entries

-- a line, not an empty one, that is that of no command
pub record IsBadLine (line : List ℕ) : Type 0 where
  pub some : line ≢ []
  pub one_line : IsOneLine line
  pub no_command : (command : Command) → IsGood command → line ≢ line_of command

-- a line, not an empty one, that is that of no edit
pub record IsBadEditLine (line : List ℕ) : Type 0 where
  pub some : line ≢ []
  pub one_line : IsOneLine line
  pub no_edit : (edit : Asked) → IsGoodEdit edit → line ≢ edit_line edit

-- an edit that a line can ask for, with a text of this many bytes after its line
pub record HasTextOf (edit : Asked) (count : ℕ) : Type 0 where
  pub good : IsGoodEdit edit
  pub text : List ℕ
  pub is_text : edited_text edit ≡ Some text
  pub count_is : length text ≡ count

-- the line of a batch of this many edits
abbrev pub batch_line : ℕ → List ℕ
batch_line n = join_with_byte 32 (codes "batch" ∷ decimal n ∷ [])

-- some edits of a batch of more, with the empty lines before the next
pub record AreListed (n : ℕ) (front : List Listed) : Type 0 where
  pub number : IsNumber n
  pub good : AreGoodEdits front
  pub fewer : length front < n

-- the line of the batch, these edits, this many empty lines, and what comes after them
abbrev pub batch_bytes : ℕ → List Listed → ℕ → List ℕ → List ℕ
batch_bytes n front blanks inner = batch_line n ++ 10 ∷ (flat_map listed_bytes front ++ (replicate blanks 10 ++ inner))
