-- A unit behind all others of a file.
use Rattle.std.specs.Prelude.{◌≡◌, ℕ, Some, List, length}
use Rattle.mm_text.specs.Language.Asked.{Insert}
use Rattle.mm_store.specs.Language.Edits.{IsEditOf}
use Rattle.mm_store.specs.Language.FilesView.{File, find_file}

-- an edit inserts a unit behind all pieces of the file of this name
pub record IsAppended (name : List ℕ) (old new : List File) : Type 0 where
  pub file : File
  pub found : find_file old name ≡ Some file
  pub text : List ℕ
  pub is_edit : IsEditOf (Insert name (length file.pieces) text) old new
