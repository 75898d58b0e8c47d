-- The report of a session: a line for each fault and for each theorem whose proof is wrong or incomplete, and a line of counts.
use Rattle.std.specs.Prelude.{◌≡◌, ℕ, ◌+◌, ◌/◌, ◌%◌, Option, unwrap_or, List, [], ◌∷◌, ◌++◌, map, slice_index_or, codes, decimal}
use Rattle.mm_keep.specs.mm_store.Language.FilesView.{File}
use Rattle.mm_keep.specs.mm_statement.Language.Database.{Located, IsDatabase}
use Rattle.mm_keep.specs.mm_statement.Language.Item.{Said}
use Rattle.mm_keep.specs.mm_frame.Language.Base.{base_of}
use Rattle.mm_keep.specs.mm_frame.declared.FrameNumber.{FrameNumber}
use Rattle.mm_keep.specs.mm_frame.declared.FrameNumber.TheVariants.{F01, F02, F03, F04, F05, F06, F07, F08, F09, F10, F11, F12, F13, F14}
use Rattle.mm_keep.specs.mm_machine.declared.ProofNumber.{ProofNumber}
use Rattle.mm_keep.specs.mm_machine.Language.Faults.{row_of}
use Rattle.mm_keep.specs.declared.finding.At.{At}
use Rattle.mm_keep.specs.Language.Sessions.{SessionView}
use Rattle.mm_keep.specs.Language.Told.{Told, Incomplete, Wrong, Fault, Shown, Counts, counts, AreRightlyTold}
use Rattle.mm_script.specs.Language.Stream.{AppendsPart}

-- the number of a fault of a statement, as it is written
abbrev pub code_of : FrameNumber → List ℕ
code_of F01 = codes "F01"
code_of F02 = codes "F02"
code_of F03 = codes "F03"
code_of F04 = codes "F04"
code_of F05 = codes "F05"
code_of F06 = codes "F06"
code_of F07 = codes "F07"
code_of F08 = codes "F08"
code_of F09 = codes "F09"
code_of F10 = codes "F10"
code_of F11 = codes "F11"
code_of F12 = codes "F12"
code_of F13 = codes "F13"
code_of F14 = codes "F14"

-- the number of a fault of a proof, as it is written: a P and two digits
abbrev pub proof_code : ProofNumber → List ℕ
proof_code number = codes "P" ++ (48 + row_of number / 10) ∷ (48 + row_of number % 10) ∷ []

-- the names of the files, in order
abbrev pub names_of : List File → List (List ℕ)
names_of files = map (λ file. file.name) files

-- a place as it is written: the name of the file, the line and the column
abbrev pub place_in : List (List ℕ) → At → List ℕ
place_in names at = slice_index_or names at.file [] ++ codes ":" ++ decimal at.line ++ codes ":" ++ decimal at.column

-- the line of a fault: the place, the number and the word
abbrev pub fault_line : List (List ℕ) → FrameNumber → Shown → List ℕ
fault_line names number shown = codes "fault " ++ place_in names shown.at ++ codes " " ++ code_of number ++ codes " " ++ shown.word ++ codes "\n"

-- the line of a theorem whose proof has a step that is not known: the label, and the place of the first such step
abbrev pub incomplete_line : List (List ℕ) → List ℕ → At → List ℕ
incomplete_line names label at = codes "incomplete " ++ label ++ codes " " ++ place_in names at ++ codes "\n"

-- the line of a theorem whose proof is wrong: the label, and the place and the number of the fault
abbrev pub wrong_line : List (List ℕ) → List ℕ → ProofNumber → At → List ℕ
wrong_line names label number at = codes "wrong " ++ label ++ codes " " ++ place_in names at ++ codes " " ++ proof_code number ++ codes "\n"

-- the line of an item, if it has one
abbrev pub item_line : List (List ℕ) → Said → Told → List ℕ
item_line names item (Incomplete at) = incomplete_line names (unwrap_or item.label []) at
item_line names item (Wrong number at) = wrong_line names (unwrap_or item.label []) number at
item_line names item (Fault number shown) = fault_line names number shown
item_line names item _ = []

-- the lines of the items, in order; an item with nothing to report has none
abbrev pub lines : List (List ℕ) → List Said → List Told → List ℕ
lines names [] all = []
lines names (item ∷ items) [] = []
lines names (item ∷ items) (one ∷ all) = item_line names item one ++ lines names items all

-- the last line: the sound `$a`, the sound `$p`, how many of these are proved, incomplete and wrong, and the faults
abbrev pub summary : Counts → List ℕ
summary counts =
    codes "axioms " ++ decimal counts.axioms ++ codes " theorems " ++ decimal counts.theorems
    ++ codes " proved " ++ decimal counts.proved ++ codes " incomplete " ++ decimal counts.incomplete ++ codes " wrong " ++ decimal counts.wrong
    ++ codes " faults " ++ decimal counts.faults ++ codes "\n"

-- the report, if the files have these names: the lines of the items, and the summary
abbrev pub report : List (List ℕ) → List Said → List Told → List ℕ
report names items all = lines names items all ++ summary (counts all)

-- the bytes are the report of a session: of what is reported rightly of each item of its files
pub record IsReport (session : SessionView) (bytes : List ℕ) : Type 0 where
  pub items : List Located
  pub of_files : IsDatabase session.files session.top items
  pub all : List Told
  pub are_told : AreRightlyTold session.files items all
  pub bytes_are : bytes ≡ report (names_of session.files) (base_of items) all

-- what is written, if it can be seen, grows by a beginning of the report of the session, or by all of it
pub record BeginsReport (session : SessionView) (old new : Option (List ℕ)) : Type 0 where
  pub bytes : List ℕ
  pub is_report : IsReport session bytes
  pub appends : AppendsPart old new bytes
