-- What an edit asks for: a file by its name, a piece of it, and a text.
use Rattle.std.specs.Prelude.{ℕ, ◌<◌, ◌≤◌, List, Option, Some, None}
use Rattle.mm_text.specs.declared.edit.Edit.{Edit}
use Rattle.mm_text.specs.declared.edit.Edit.TheVariants as code

-- an edit of the file with a name. A member is one of its pieces, by its number from 0. Insert puts a text as a new member before the one
-- with this number, and Replace puts it in the place of that one. Delete takes a member out, and Move puts it back with another number
pub data Asked : Type 0 where
  Insert : List ℕ → ℕ → List ℕ → Asked
  Replace : List ℕ → ℕ → List ℕ → Asked
  Delete : List ℕ → ℕ → Asked
  Move : List ℕ → ℕ → ℕ → Asked

-- the edit that a call gets, as the definitions see it
abbrev pub asked : Edit → Asked
asked (code.Insert file at text) = Insert file.now at text.now
asked (code.Replace file at text) = Replace file.now at text.now
asked (code.Delete file at) = Delete file.now at
asked (code.Move file at to) = Move file.now at to

-- the name of the file that is edited
abbrev pub edited_name : Asked → List ℕ
edited_name (Insert file at text) = file
edited_name (Replace file at text) = file
edited_name (Delete file at) = file
edited_name (Move file at to) = file

-- the text that an edit brings; a deletion and a move bring none
abbrev pub edited_text : Asked → Option (List ℕ)
edited_text (Insert file at text) = Some text
edited_text (Replace file at text) = Some text
edited_text (Delete file at) = None
edited_text (Move file at to) = None

-- a file of this many members has those that the edit names; an insertion may name the place after the last
abbrev pub IsAmong : Asked → ℕ → Type 0
IsAmong (Insert file at text) count = at ≤ count
IsAmong (Replace file at text) count = at < count
IsAmong (Delete file at) count = at < count
IsAmong (Move file at to) count = (at < count) × (to < count)
