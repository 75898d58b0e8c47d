-- What a contract sees of the files: each with its name, the keys of its pieces in order, and its tail; and the pieces, under their keys.
-- Other definitions see them in two ways: with keys and texts, or without keys, which is what the files mean.
use Rattle.std.specs.Prelude.{ℕ, ◌+◌, List, [], ◌∷◌, ◌++◌, Option, Some, None, length, map, position, slice_get}
use Rattle.std.specs.List.{concat}
use Rattle.std.specs.Str.{bytes_eq}
use Rattle.std.specs.FinMap as finite
use Rattle.mm_store.specs.declared.key.PieceKey.{PieceKey}
use Rattle.mm_store.specs.Language.Pieces.{Pieces, text_under}

-- a file as it is kept: its name, the keys of its pieces in order, and its tail
pub record KeyedFile : Type 0 where
  pub name : List ℕ
  pub keys : List ℕ
  pub tail : List ℕ

-- the files in the order in which they were added, and all pieces under their keys: those that are in files, and those that are parked
pub record FilesView : Type 0 where
  pub keyed : List KeyedFile
  pub pieces : Pieces

-- no files, and no pieces
abbrev pub no_files : FilesView
no_files = record { keyed = []; pieces = finite.empty }

-- a piece of a file: its key, which stays when pieces move, and its text
pub record PieceView : Type 0 where
  pub key : PieceKey
  pub text : List ℕ

-- a file with the keys and the texts of its pieces
pub record FileView : Type 0 where
  pub name : List ℕ
  pub pieces : List PieceView
  pub tail : List ℕ

-- the key with this number
abbrev pub key_of : ℕ → PieceKey
key_of at = record { at = at }

-- the piece under a key, with its text
abbrev pub piece_view : Pieces → ℕ → PieceView
piece_view pieces key = record { key = key_of key; text = text_under pieces key }

-- a file with the keys of its pieces, and their texts in this map of pieces
abbrev pub file_view : Pieces → KeyedFile → FileView
file_view pieces file = record { name = file.name; pieces = map (piece_view pieces) file.keys; tail = file.tail }

-- the files with keys and texts
abbrev pub files_in : FilesView → List FileView
files_in view = map (file_view view.pieces) view.keyed

-- the number of the first file of this name, from 0, or none. Files are added so that no two have one name
abbrev pub number_of : List FileView → List ℕ → Option ℕ
number_of files name = position (λ file. bytes_eq name file.name) files

-- a file without keys: its name, the texts of its pieces, and its tail
pub record File : Type 0 where
  pub name : List ℕ
  pub pieces : List (List ℕ)
  pub tail : List ℕ

-- the texts of pieces, without their keys
abbrev pub piece_texts : List PieceView → List (List ℕ)
piece_texts pieces = map (λ piece. piece.text) pieces

-- a file without the keys of its pieces
abbrev pub without_keys : FileView → File
without_keys file = record { name = file.name; pieces = piece_texts file.pieces; tail = file.tail }

-- a file without keys: the texts of its pieces are those in this map of pieces
abbrev pub plain_file : Pieces → KeyedFile → File
plain_file pieces file = record { name = file.name; pieces = map (text_under pieces) file.keys; tail = file.tail }

-- the files without keys: names and lists of texts, which is all that they mean
abbrev pub plain : FilesView → List File
plain view = map (plain_file view.pieces) view.keyed

-- the number of the first file of this name, from 0, or none. Files are added so that no two have one name
abbrev pub file_number : List File → List ℕ → Option ℕ
file_number files name = position (λ file. bytes_eq name file.name) files

-- the file with this number, if there is one
abbrev pub file_at : List File → Option ℕ → Option File
file_at files None = None
file_at files (Some number) = slice_get files number

-- the file of this name
abbrev pub find_file : List File → List ℕ → Option File
find_file files name = file_at files (file_number files name)

-- the text of a file: its pieces and its tail, joined
abbrev pub text_of : File → List ℕ
text_of file = concat file.pieces ++ file.tail

-- how many bytes all files have together
abbrev pub bytes_of : List File → ℕ
bytes_of [] = 0
bytes_of (file ∷ files) = length (text_of file) + bytes_of files
