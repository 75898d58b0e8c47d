-- What lines of a script ask for, as they are read.
use Rattle.std.specs.Prelude.{◌≡◌, ◌≢◌, ◌≤◌, ◌+◌, ℕ, Option, Some, None, IfSome, List, [], ◌∷◌, ◌++◌, length, decimal}
use Rattle.std.specs.List.{AllByRecursion}
use Rattle.mm_script.specs.declared.command.CommandAt.{CommandAt}
use Rattle.mm_script.specs.declared.command.EditAt.{EditAt}
use Rattle.mm_script.specs.declared.command.EditAt.TheVariants as edits
use Rattle.mm_script.specs.declared.command.PendingRange.{PendingRange}
use Rattle.mm_script.specs.declared.line.CommandLine.{CommandLine}
use Rattle.mm_script.specs.declared.line.CommandLine.TheVariants as code
use Rattle.mm_script.specs.declared.script_lines.LineAt.{LineAt}
use Rattle.mm_script.specs.Language.Commands.{edit_in, IsCommandIn, IsEditWithin}
use Rattle.mm_script.specs.Language.Script.{Command, EndsInLine, IsGood, IsGoodEdit, IsName, IsNumber, behind_line, edit_line, line_of}
use Rattle.mm_script.specs.Code.Growing.{line_bytes}
use Rattle.mm_script.specs.Code.Stops.{batch_line}

-- no space is among these bytes
abbrev pub HasNoSpace : List ℕ → Type 0
HasNoSpace bytes = AllByRecursion (λ b. b ≢ 32) bytes

-- bytes up to the first space, and those after it
pub record CutsAt (bytes head tail : List ℕ) : Type 0 where
  pub is : bytes ≡ head ++ 32 ∷ tail
  pub none : HasNoSpace head

-- a name, and the bytes after the space behind it
pub record CutsName (bytes name tail : List ℕ) : Type 0 where
  pub good : IsName name
  pub is : bytes ≡ name ++ 32 ∷ tail

-- two numbers, with a space between them
pub record AreNumbers (bytes : List ℕ) (n m : ℕ) : Type 0 where
  pub first : IsNumber n
  pub second : IsNumber m
  pub is : bytes ≡ decimal n ++ 32 ∷ decimal m

-- where the text of an edit is
abbrev pub text_part : EditAt → Option PendingRange
text_part (edits.Insert file at text) = Some text
text_part (edits.Replace file at text) = Some text
text_part _ = None

-- the parts of the edit are within the bytes, and the line is that of the edit
pub record IsLineOfEdit (line bytes : List ℕ) (edit : EditAt) : Type 0 where
  pub parts : IsEditWithin bytes edit
  pub good : IsGoodEdit (edit_in bytes edit)
  pub is : line ≡ edit_line (edit_in bytes edit)

-- the line asks for the edit: its text begins after the line's feed, and however the bytes go on, the line is that of the edit if they have it
pub record SaysEdit (bytes : List ℕ) (line : LineAt) (edit : EditAt) : Type 0 where
  pub text : IfSome (text_part edit) (λ text. (text.start ≡ line.end + 1) × (text.start ≤ text.end))
  pub is : (more : List ℕ) → IfSome (text_part edit) (λ text. text.end ≤ length (bytes ++ more))
      → IsLineOfEdit (line_bytes bytes line) (bytes ++ more) edit

-- the line is that of a command that has nothing after its line
pub record IsAlone (bytes : List ℕ) (line : LineAt) (found : CommandAt) : Type 0 where
  pub command : Command
  pub good : IsGood command
  pub is_command : IsCommandIn bytes found command
  pub is : line_bytes bytes line ≡ line_of command
  pub none_behind : behind_line command ≡ []
  pub in_line : EndsInLine command

-- what a line asks for
abbrev pub SaysLine : List ℕ → LineAt → CommandLine → Type 0
SaysLine bytes line (code.Change edit) = SaysEdit bytes line edit
SaysLine bytes line (code.Batch n) = IsNumber n × (line_bytes bytes line ≡ batch_line n)
SaysLine bytes line (code.Alone found) = IsAlone bytes line found
