-- From the fields of `Files` to what a contract sees, and what always holds of the fields.
use Rattle.std.specs.Prelude.{◌≡◌, ℕ, suc, ◌+◌, ◌≤◌, cond, nat_eq, List, [], ◌∷◌, Option, Some, None, length, map, Vec}
use Rattle.std.specs.List.{sum_by}
use Rattle.std.specs.FinMap as finite
use Rattle.mm_text.specs.Language.Reading.{HasWords}
use Rattle.mm_store.specs.declared.file_text.FileText.{FileText}
use Rattle.mm_store.specs.declared.files.Files.TheInside.{Inside}
use Rattle.mm_store.specs.Language.Pieces.{PieceState, Standing, Parked, Removal, Replaced, Deleted, HeldPiece, Pieces}
use Rattle.mm_store.specs.Language.FilesView.{KeyedFile, FilesView, File, plain, bytes_of}
use Rattle.mm_store.specs.Code.Room.{HasRoom}
use Rattle.mm_store.specs.Code.Starts.{HasStarts}

abbrev pub keyed_file : {Y : Type 0} → Vec ℕ Y × FileText → KeyedFile
keyed_file entry = record { name = entry.0.items; keys = entry.1.keys.items; tail = entry.1.tail.items }

abbrev pub files_view : Inside → FilesView
files_view inside = record { keyed = map keyed_file inside.files.entries; pieces = inside.pieces }

-- 1 for the same key, 0 for another
abbrev pub one : ℕ → ℕ → ℕ
one k x = cond (nat_eq k x) 1 0

-- how often a key is in a list
abbrev pub times : ℕ → List ℕ → ℕ
times k keys = sum_by (one k) keys

-- at how many places a key is in the files
abbrev pub places : ℕ → List KeyedFile → ℕ
places k [] = 0
places k (file ∷ files) = times k file.keys + places k files

abbrev pub standing_state : PieceState → ℕ
standing_state Standing = 1
standing_state (Parked file kind) = 0

-- 1 for a piece that is in a file, and else 0
abbrev pub standing_count : Option HeldPiece → ℕ
standing_count None = 0
standing_count (Some piece) = standing_state piece.state

abbrev pub deleted_kind : Removal → ℕ
deleted_kind Replaced = 0
deleted_kind Deleted = 1

abbrev pub deleted_state : ℕ → PieceState → ℕ
deleted_state n Standing = 0
deleted_state n (Parked file kind) = cond (nat_eq n file) (deleted_kind kind) 0

abbrev pub weigh : (HeldPiece → ℕ) → List (ℕ × HeldPiece) → ℕ
weigh w [] = 0
weigh w (e ∷ es) = w e.1 + weigh w es

-- how many parked pieces were deleted from the file of this number
abbrev pub deletions : ℕ → Pieces → ℕ
deletions n pieces = weigh (λ piece. deleted_state n piece.state) (finite.entries pieces)

-- a file has room for its pieces and for those of its deleted ones that are parked
pub record IsRoomy (pieces : Pieces) (n : ℕ) (file : FileText) : Type 0 where
  pub parked : file.deleted ≡ deletions n pieces
  pub room : HasRoom file

-- each file from this number on has such room
abbrev pub HaveRoom : {Y : Type 0} → Pieces → ℕ → List (Vec ℕ Y × FileText) → Type 0
HaveRoom pieces n [] = Unit {0}
HaveRoom pieces n (entry ∷ entries) = IsRoomy pieces n entry.1 × HaveRoom pieces (suc n) entries

-- of each file the beginnings of the pieces, up to one of them or to the tail, are known, and the tail holds no word
abbrev pub HaveStarts : {Y : Type 0} → List File → List (Vec ℕ Y × FileText) → Type 0
HaveStarts files [] = files ≡ []
HaveStarts [] (entry ∷ entries) = ⊥
HaveStarts (file ∷ files) (entry ∷ entries) = HasStarts file.pieces entry.1 × HasWords entry.1.tail.items [] × HaveStarts files entries

pub record AreFilesKept (inside : Inside) : Type 0 where
  -- a piece in a file is at one place of the files, and a parked one at none: so a piece at no place is parked, and no key of the files
  -- is without a piece
  pub once : (k : ℕ) → places k (map keyed_file inside.files.entries) ≡ standing_count (finite.get inside.pieces k)
  pub room : HaveRoom inside.pieces 0 inside.files.entries
  -- no piece is parked as deleted from a file that is not there
  pub known : (m : ℕ) → length inside.files.entries ≤ m → deletions m inside.pieces ≡ 0
  pub starts : HaveStarts (plain (files_view inside)) inside.files.entries
  pub counted : inside.bytes ≡ bytes_of (plain (files_view inside))
  pub within : inside.bytes ≤ 4294967295
