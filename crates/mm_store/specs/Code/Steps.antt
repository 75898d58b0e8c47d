-- The steps of a walk through the files.
use Rattle.std.specs.Prelude.{◌≡◌, ℕ, ◌+◌, ◌<◌, true, false, List, [], ◌∷◌, ◌++◌, Option, Some, None, Contains, slice_get, ◌⊎◌}
use Rattle.std.specs.List.{AllByRecursion}
use Rattle.mm_store.specs.declared.walk.PlacedPiece.{PlacedPiece}
use Rattle.mm_store.specs.declared.walk.Step.{Step}
use Rattle.mm_store.specs.declared.walk.Step.TheVariants as steps
use Rattle.mm_store.specs.Language.FilesView.{PieceView, FileView, number_of}
use Rattle.mm_store.specs.Language.Expansion.{Placed, IsInclusion, ArePartsOf}
use Rattle.mm_store.specs.Language.Walking.{LevelView, WalkView}

abbrev pub piece_in : Option FileView → ℕ → Option PieceView
piece_in None piece = None
piece_in (Some file) piece = slice_get file.pieces piece

-- the piece that is next in an entered file
abbrev pub piece_at : List FileView → LevelView → Option PieceView
piece_at files level = piece_in (slice_get files level.file) level.piece

-- after the next piece of a file
abbrev pub behind : LevelView → LevelView
behind level = record { file = level.file; piece = level.piece + 1 }

-- the beginning of a file
abbrev pub beginning : ℕ → LevelView
beginning number = record { file = number; piece = 0 }

-- the innermost of the entered files, and its next piece
pub record IsHere (files : List FileView) (levels : List LevelView) (front : List LevelView) (level : LevelView) (piece : PieceView) : Type 0 where
  pub last : levels ≡ front ++ level ∷ []
  pub there : piece_at files level ≡ Some piece

-- a walk that has gone past nothing
abbrev pub first_walk : List ℕ → ℕ → WalkView
first_walk top number = record { names = top ∷ []; levels = beginning number ∷ []; told = false }

-- a piece includes nothing
pub record IncludesNothing (file number : ℕ) (piece : PieceView) : Type 0 where
  pub placed : List Placed
  pub are_parts : ArePartsOf file number piece placed
  pub own : AllByRecursion (λ part. ¬ IsInclusion part) placed

-- a piece is a reference to this name
pub record Includes (file number : ℕ) (piece : PieceView) (name : List ℕ) : Type 0 where
  pub part : Placed
  pub are_parts : ArePartsOf file number piece (part ∷ [])
  pub is_inclusion : IsInclusion part
  pub is_name : part.name ≡ name

abbrev pub spot_at : LevelView → PieceView → PlacedPiece
spot_at level piece = record { file = level.file; piece = level.piece; key = piece.key }

-- the walk leaves a file that has no more pieces, or that is not there
pub record Leaves (files : List FileView) (old new : WalkView) : Type 0 where
  pub front : List LevelView
  pub level : LevelView
  pub last : old.levels ≡ front ++ level ∷ []
  pub none : piece_at files level ≡ None
  pub after : new ≡ record { names = old.names; levels = front; told = false }

-- the walk goes past a reference to a name that was taken
pub record ComesAgain (files : List FileView) (old new : WalkView) : Type 0 where
  pub front : List LevelView
  pub level : LevelView
  pub piece : PieceView
  pub is_here : IsHere files old.levels front level piece
  pub name : List ℕ
  pub includes : Includes level.file level.piece piece name
  pub known : Contains old.names name
  pub after : new ≡ record { names = old.names; levels = front ++ behind level ∷ []; told = false }

-- the walk enters a file that is included
pub record Enters (files : List FileView) (old new : WalkView) : Type 0 where
  pub front : List LevelView
  pub level : LevelView
  pub piece : PieceView
  pub is_here : IsHere files old.levels front level piece
  pub name : List ℕ
  pub includes : Includes level.file level.piece piece name
  pub fresh : ¬ Contains old.names name
  pub number : ℕ
  pub is_number : number_of files name ≡ Some number
  pub after : new ≡ record { names = old.names ++ name ∷ []; levels = (front ++ behind level ∷ []) ++ beginning number ∷ []; told = false }

-- the walk goes past a piece that includes nothing
pub record Passes (files : List FileView) (old : WalkView) (spot : PlacedPiece) (new : WalkView) : Type 0 where
  pub front : List LevelView
  pub level : LevelView
  pub piece : PieceView
  pub is_here : IsHere files old.levels front level piece
  pub is_spot : spot ≡ spot_at level piece
  pub nothing : IncludesNothing level.file level.piece piece
  pub after : new ≡ record { names = old.names; levels = front ++ behind level ∷ []; told = false }

-- the walk goes past a reference to a missing file that was reported
pub record PassesTold (files : List FileView) (old : WalkView) (spot : PlacedPiece) (new : WalkView) : Type 0 where
  pub front : List LevelView
  pub level : LevelView
  pub piece : PieceView
  pub is_here : IsHere files old.levels front level piece
  pub is_spot : spot ≡ spot_at level piece
  pub name : List ℕ
  pub includes : Includes level.file level.piece piece name
  pub fresh : ¬ Contains old.names name
  pub none : number_of files name ≡ None
  pub told : old.told ≡ true
  pub after : new ≡ record { names = old.names ++ name ∷ []; levels = front ++ behind level ∷ []; told = false }

-- the walk comes to a reference to a missing file of this name that was not reported, and stops before it
pub record Tells (files : List FileView) (old : WalkView) (name : List ℕ) (new : WalkView) : Type 0 where
  pub front : List LevelView
  pub level : LevelView
  pub piece : PieceView
  pub is_here : IsHere files old.levels front level piece
  pub includes : Includes level.file level.piece piece name
  pub fresh : ¬ Contains old.names name
  pub none : number_of files name ≡ None
  pub untold : old.told ≡ false
  pub after : new ≡ record { names = old.names; levels = old.levels; told = true }

-- a step from one walk to another
abbrev pub IsStep : List FileView → WalkView → Step → WalkView → Type 0
IsStep files old steps.End new = (old.levels ≡ []) × (new ≡ old)
IsStep files old steps.Nothing new = Leaves files old new ⊎ (ComesAgain files old new ⊎ Enters files old new)
IsStep files old (steps.Items spot) new = Passes files old spot new ⊎ PassesTold files old spot new
IsStep files old (steps.Missing name) new = Tells files old name.items new

-- the next piece of the innermost file is a reference to this name
pub record IsReference (files : List FileView) (levels : List LevelView) (spot : PlacedPiece) (name : List ℕ) : Type 0 where
  pub front : List LevelView
  pub level : LevelView
  pub piece : PieceView
  pub is_here : IsHere files levels front level piece
  pub is_spot : spot ≡ spot_at level piece
  pub includes : Includes level.file level.piece piece name
  pub small : level.piece < 18446744073709551615
