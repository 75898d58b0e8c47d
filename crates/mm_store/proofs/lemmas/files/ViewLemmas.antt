-- What the files with keys and texts say of the keyed files and the pieces.
use Rattle.std.proofs.lemmas.{Grind.{elements, common_steps}, List.{length-map}, Option.{none-some, same_Some, slice_get-map, slice_get_within, get_or_from_slice_get}}
use Rattle.std.{proofs.Common.{arith, ◌≡◌, ℕ, suc, ◌+◌, Bool, not, cond, List, [], ◌∷◌, Option, Some, map, refl, ap, IsSome, slice_get}, specs.{List.{position_or_len}, Option.{option_map}}}
use Rattle.mm_store.specs.Language.{Walking.{LevelView}, Pieces.{text_under}, FilesView.{KeyedFile, PieceView, FileView, FilesView, files_in, file_number, file_view, number_of, piece_view, plain}}
use Rattle.mm_store.specs.{Language.FileFacts.{HoldsPieces}, Code.Steps.{piece_at}}
use Rattle.std.specs.FinMap as finite

-- the element that a list of values has at a place
pub there_from_map : {X Y : Type 0} (f : X → Y) (xs : List X) (n : ℕ) (y : Y) → slice_get (map f xs) n ≡ Some y → (x : X) × (slice_get xs n ≡ Some x) × (y ≡ f x)
there_from_map f (x ∷ xs) (suc n) y h = there_from_map f xs n y h
there_from_map f xs n y h = grind (arith, common_steps, same_Some) steps 200000

-- a piece of a file is under its key
pub record PieceThere (view : FilesView) (number n : ℕ) (piece : PieceView) : Type 0 where
  pub file : KeyedFile
  pub there : slice_get view.keyed number ≡ Some file
  pub is_key : slice_get file.keys n ≡ Some piece.key.at
  pub text : piece.text ≡ text_under view.pieces piece.key.at

pub piece_there : (view : FilesView) (number : ℕ) (file : FileView) (n : ℕ) (piece : PieceView) → slice_get (files_in view) number ≡ Some file → slice_get file.pieces n ≡ Some piece → PieceThere view number n piece
piece_there view number file n piece there here = grind (arith, common_steps, there_from_map) steps 200000

-- the piece that is next in a file is there
pub next_there : (view : FilesView) (level : LevelView) (piece : PieceView) → piece_at (files_in view) level ≡ Some piece → PieceThere view level.file level.piece piece
next_there view level piece there = grind (arith, common_steps, none-some, piece_there) steps 200000

-- each key of a file has a piece
pub held_there : (view : FilesView) (number n : ℕ) (file : KeyedFile) (key : ℕ) → HoldsPieces view → slice_get view.keyed number ≡ Some file → slice_get file.keys n ≡ Some key → IsSome (finite.get view.pieces key)
held_there view number n file key holds there is = grind (arith, elements, finite.get, get_or_from_slice_get, slice_get_within) steps 200000

pub some_is : {X : Type 0} (o : Option X) → IsSome o → (x : X) × (o ≡ Some x)
some_is o h = grind (arith, common_steps) steps 200000

-- the piece that is next in a file is the one under the key there
pub piece_at_key : (view : FilesView) (number n : ℕ) (file : KeyedFile) → slice_get view.keyed number ≡ Some file → piece_at (files_in view) (record { file = number; piece = n }) ≡ option_map (piece_view view.pieces) (slice_get file.keys n)
piece_at_key view number n file there = grind (arith, common_steps, slice_get-map (file_view view.pieces) view.keyed number, slice_get-map) steps 200000

pub before_map : {X Y : Type 0} (test : Y → Bool) (f : X → Y) (xs : List X) → position_or_len test (map f xs) ≡ position_or_len (λ x. test (f x)) xs
before_map test f [] = refl
before_map test f (x ∷ xs) = ap (λ (k : ℕ). cond (not (test (f x))) (1 + k) 0) (before_map test f xs)

-- a name has one number, with keys and without
pub number_plain : (view : FilesView) (name : List ℕ) → file_number (plain view) name ≡ number_of (files_in view) name
number_plain view name = grind (arith, common_steps, before_map, length-map) steps 200000
