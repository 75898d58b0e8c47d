-- The walk through the files, part by part, while files may still be added: how much of the expansion of a top file it has passed, and what
-- is still to come.
use Rattle.std.specs.Prelude.{◌≡◌, ◌≢◌, ℕ, Bool, true, List, [], ◌∷◌, ◌++◌, Some, None, Contains, All, drop, slice_get, ◌⊎◌}
use Rattle.mm_store.specs.declared.item.Item.{Item}
use Rattle.mm_store.specs.declared.item.ItemKind.TheVariants.{Missing}
use Rattle.mm_store.specs.Language.FilesView.{PieceView, FileView, number_of}
use Rattle.mm_store.specs.Language.Expansion.{Placed, IsInclusion, placed_item, ArePartsOf, ArePlaced, IsExpansion}

-- a file that a walk has entered and not left: its number, and which of its pieces is next, both from 0
pub record LevelView : Type 0 where
  pub file : ℕ
  pub piece : ℕ

-- a walk: the names taken so far; the files that it has entered and not left, the innermost last; and whether it has reported the reference
-- that comes next as missing
pub record WalkView : Type 0 where
  pub names : List (List ℕ)
  pub levels : List LevelView
  pub told : Bool

-- what a file has from a piece of it on
pub record IsRest (files : List FileView) (level : LevelView) (parts : List Placed) : Type 0 where
  pub file : FileView
  pub there : slice_get files level.file ≡ Some file
  pub placed : ArePlaced level.file level.piece (drop level.piece file.pieces) parts

-- what is still to come: the rest of the innermost file, then the rest of the one that includes it, and so on
abbrev pub ArePending : List FileView → List LevelView → List Placed → Type 0
ArePending files [] parts = parts ≡ []
ArePending files (level ∷ inner) parts =
    (first : List Placed) × (own : List Placed) × ArePending files inner first × IsRest files level own × (parts ≡ first ++ own)

-- the expansion one part at a time: from parts and a set of names on, past these items, to the parts that are left and the names by then
pub data Goes (files : List FileView) : List Placed → List (List ℕ) → List Item → List Placed → List (List ℕ) → Type 0 where
  here : {parts : List Placed} {names : List (List ℕ)} → Goes files parts names [] parts names
  own : {part : Placed} {parts rest : List Placed} {names after : List (List ℕ)} {items : List Item}
      → ¬ IsInclusion part → Goes files parts names items rest after
      → Goes files (part ∷ parts) names (placed_item part ∷ items) rest after
  again : {part : Placed} {parts rest : List Placed} {names after : List (List ℕ)} {items : List Item}
      → IsInclusion part → Contains names part.name → Goes files parts names items rest after
      → Goes files (part ∷ parts) names items rest after
  missing : {part : Placed} {parts rest : List Placed} {names after : List (List ℕ)} {items : List Item}
      → IsInclusion part → ¬ Contains names part.name → number_of files part.name ≡ None → Goes files parts (names ++ part.name ∷ []) items rest after
      → Goes files (part ∷ parts) names (placed_item part ∷ items) rest after
  -- the parts of an included file come before those after the inclusion
  included : {part : Placed} {parts rest : List Placed} {names after : List (List ℕ)} {items : List Item} {number : ℕ} {file : FileView} (inner : List Placed)
      → IsInclusion part → ¬ Contains names part.name → number_of files part.name ≡ Some number → slice_get files number ≡ Some file
      → ArePlaced number 0 file.pieces inner → Goes files (inner ++ parts) (names ++ part.name ∷ []) items rest after
      → Goes files (part ∷ parts) names items rest after

-- the walk from a top file on has gone past these items of the files
-- In words: `walks_go_on`: If a walk has gone past items, it has gone past the same items after a file is added whose name it has not taken.
pub record IsWalk (files : List FileView) (top : List ℕ) (items : List Item) (walk : WalkView) : Type 0 where
  pub number : ℕ
  pub file : FileView
  pub is_top : number_of files top ≡ Some number
  pub there : slice_get files number ≡ Some file
  pub parts : List Placed
  pub placed : ArePlaced number 0 file.pieces parts
  pub pending : List Placed
  pub are_pending : ArePending files walk.levels pending
  pub goes : Goes files parts (top ∷ []) items pending walk.names

-- the next piece of the innermost file is this part alone
pub record IsNextPiece (files : List FileView) (levels : List LevelView) (part : Placed) : Type 0 where
  pub outer : List LevelView
  pub innermost : LevelView
  pub last : levels ≡ outer ++ innermost ∷ []
  pub file : FileView
  pub there : slice_get files innermost.file ≡ Some file
  pub piece : PieceView
  pub is_piece : slice_get file.pieces innermost.piece ≡ Some piece
  pub are_parts : ArePartsOf innermost.file innermost.piece piece (part ∷ [])

-- the next part of a walk is a reference to a name that it has not taken, and this is the next piece of the innermost file
pub record StandsBefore (files : List FileView) (walk : WalkView) (part : Placed) : Type 0 where
  pub later : List Placed
  pub are_pending : ArePending files walk.levels (part ∷ later)
  pub is_inclusion : IsInclusion part
  pub new : ¬ Contains walk.names part.name
  pub is_next : IsNextPiece files walk.levels part

-- the walk has reported the reference that it stands before, and this is its name
abbrev pub HasReported : List FileView → WalkView → List ℕ → Type 0
HasReported files walk name = (part : Placed) × (walk.told ≡ true) × StandsBefore files walk part × (part.name ≡ name)

-- no reference to a missing file is among the items
abbrev pub MissNothing : List Item → Type 0
MissNothing items = All (λ item. item.kind ≢ Missing) items

-- a walk goes past these items, and none is a reference to a missing file, except the first if the walk has reported it before
abbrev pub MissOnlyTold : List FileView → WalkView → List Item → Type 0
MissOnlyTold files walk items =
    MissNothing items
    ⊎ ((part : Placed) × (later : List Item) × (walk.told ≡ true) × StandsBefore files walk part × (items ≡ placed_item part ∷ later) × MissNothing later)

-- the walk goes on from the items past which it has gone; the names that it has taken stay, and each other one that it takes is that of a
-- file, or the one that it has reported before
pub record GoesOn (files : List FileView) (top : List ℕ) (items : List Item) (old new : WalkView) : Type 0 where
  pub more : List Item
  pub is_walk : IsWalk files top (items ++ more) new
  pub few : MissOnlyTold files old more
  pub later : List (List ℕ)
  pub keeps : new.names ≡ old.names ++ later
  pub taken : (name : List ℕ) → Contains new.names name → Contains old.names name ⊎ ((number_of files name ≢ None) ⊎ HasReported files old name)

-- the walk goes on, and stops somewhere on its way: it has reported the reference that comes next only if it has not moved; and if it had
-- reported one before, that is still so, or it has taken its name
pub record StopsOnWay (files : List FileView) (top : List ℕ) (items : List Item) (old new : WalkView) : Type 0 where
  pub goes_on : GoesOn files top items old new
  pub same : new.told ≡ true → new ≡ old
  pub passed : (part : Placed) → old.told ≡ true → StandsBefore files old part → (new ≡ old) ⊎ Contains new.names part.name

-- the walk goes on to the first reference to a missing file that it has not reported, reports it, and stops before it; the file has this
-- name. If the walk had reported the name of a reference before, it has taken it
pub record FindsMissing (files : List FileView) (top : List ℕ) (items : List Item) (old new : WalkView) (name : List ℕ) : Type 0 where
  pub goes_on : GoesOn files top items old new
  pub part : Placed
  pub stands : StandsBefore files new part
  pub is_name : part.name ≡ name
  pub none : number_of files name ≡ None
  pub told : new.told ≡ true
  pub passed : (before : List ℕ) → HasReported files old before → Contains new.names before

-- the walk goes on to the end of the expansion, which takes the same names
pub record FindsEnd (files : List FileView) (top : List ℕ) (items : List Item) (old new : WalkView) : Type 0 where
  pub goes_on : GoesOn files top items old new
  pub is_expansion : IsExpansion files top (items ++ goes_on.more)
  pub names : is_expansion.after ≡ new.names
