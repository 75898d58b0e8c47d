-- Edits: when one is refused, and what it makes of the files without keys.
use Rattle.std.specs.Prelude.{◌≡◌, ◌≢◌, ℕ, ◌≤◌, List, [], Option, Some, None, length, slice_get, slice_set, slice_index_or}
use Rattle.std.specs.List.{insert, remove}
use Rattle.mm_text.specs.declared.fault.TextFault.{TextFault}
use Rattle.mm_text.specs.Language.Cut.{IsCut, IsFirstFault, ended}
use Rattle.mm_text.specs.Language.Asked.{Asked, Insert, Replace, Delete, Move, edited_name, edited_text, IsAmong}
use Rattle.mm_store.specs.Language.FilesView.{File, file_number, bytes_of}

-- the members after the edit. A new one is the whole text of the edit, ended by white space, and is not cut again
-- In words: `edits_keep_members`: An insertion puts the new member before the one that had its number, a replacement puts it in the place of
-- the old one, and a deletion takes the old one out. A move takes a member over those between its old place and its new one. All other
-- members stay as they were, in their order.
abbrev pub edited : Asked → List (List ℕ) → List (List ℕ)
edited (Insert file at text) pieces = insert pieces at (ended text)
edited (Replace file at text) pieces = slice_set pieces at (ended text)
edited (Delete file at) pieces = remove pieces at
edited (Move file at to) pieces = insert (remove pieces at) to (slice_index_or pieces at [])

-- the file with these members in place of its own
abbrev pub with_members : File → List (List ℕ) → File
with_members file pieces = record { name = file.name; pieces = pieces; tail = file.tail }

-- the files after an edit of the one with this number
-- In words: `edits_keep_files`: The files keep their names and their order. The one that the edit names keeps its tail, and has the members
-- that the edit makes of its own; every other one stays as it was.
abbrev pub after_edit : List File → Asked → ℕ → File → List File
after_edit files edit number file = slice_set files number (with_members file (edited edit file.pieces))

-- the edit names this file, which has this number
pub record IsEditedFile (files : List File) (edit : Asked) (number : ℕ) (file : File) : Type 0 where
  pub named : file_number files (edited_name edit) ≡ Some number
  pub there : slice_get files number ≡ Some file

-- the text can be cut, and has this many units: its cut has this many pieces
pub record HasUnitCount (text : List ℕ) (count : ℕ) : Type 0 where
  pub pieces : List (List ℕ)
  pub tail : List ℕ
  pub is_cut : IsCut text pieces tail
  pub is_count : length pieces ≡ count

-- a text that the edit brings has exactly one unit
abbrev pub BringsOneUnit : Option (List ℕ) → Type 0
BringsOneUnit None = Unit {0}
BringsOneUnit (Some text) = HasUnitCount text 1

-- the edit brings a text, and this is the first fault of it
abbrev pub BringsFault : Option (List ℕ) → TextFault → Type 0
BringsFault None fault = ⊥
BringsFault (Some text) fault = IsFirstFault text fault

-- the edit brings a text that can be cut and has this many units, and not one
abbrev pub BringsNotOne : Option (List ℕ) → ℕ → Type 0
BringsNotOne None count = ⊥
BringsNotOne (Some text) count = HasUnitCount text count × (count ≢ 1)

-- the edit names this file, which has this number, and members that it has
pub record IsPlaced (files : List File) (edit : Asked) (number : ℕ) (file : File) : Type 0 where
  pub file_there : IsEditedFile files edit number file
  pub among : IsAmong edit (length file.pieces)

-- the edit names a file, which has this many members, and a member that it does not have
abbrev pub NamesNoMember : Asked → List File → ℕ → Type 0
NamesNoMember edit files count =
    (number : ℕ) × (file : File) × IsEditedFile files edit number file × (count ≡ length file.pieces) × ¬ IsAmong edit count

-- the edit is accepted, and these are the files after it: its file and its members exist, its text is one unit, and the files have at
-- most 4,294,967,295 bytes
pub record IsEditOf (edit : Asked) (files after : List File) : Type 0 where
  pub number : ℕ
  pub file : File
  pub placed : IsPlaced files edit number file
  pub one_unit : BringsOneUnit (edited_text edit)
  pub is_after : after ≡ after_edit files edit number file
  pub within : bytes_of after ≤ 4294967295
