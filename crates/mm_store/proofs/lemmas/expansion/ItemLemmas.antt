-- The items that a walk goes past, as the code puts them one after another.
use Rattle.std.proofs.{Common.{arith, ◌≡◌, ℕ, List, [], ◌∷◌, ◌++◌, map, sym, ap, ◌∙◌, subst, append-nil, inl, inr, IsSome}, lemmas.{Grind.{elements}, Simd.{map-map}}}
use Rattle.mm_text.specs.{declared.part.Part.{Part}, Language.Part.{HasParts}}
use Rattle.mm_store.specs.{declared.{item.Item.{Item}, walk.PlacedPiece.{PlacedPiece}}, Language.{Pieces.{text_under}, FilesView.{PieceView, FilesView, files_in}, FileFacts.{HoldsPieces}}}
use Rattle.mm_store.specs.{Language.{Expansion.{Placed, placed_item, named_parts, placed_part, ArePartsOf}, Walking.{LevelView, WalkView, IsWalk}}, Code.Gains.{HoldUnits, item_of_part}}
use Rattle.mm_store.{specs.Code.Steps.{spot_at, Tells, IsStep}, proofs.lemmas.expansion.{ExpansionLemmas.{OneReading, OneDivision}, NameLemmas.{named_are}}}
use Rattle.mm_store.proofs.lemmas.{expansion.WalkStepLemmas.{leaves, comes_again, enters, passes, passes_told, walk_on}, files.ViewLemmas.{PieceThere, next_there, held_there}}
use Rattle.std.specs.FinMap as finite
use Rattle.mm_store.specs.declared.walk.Step.TheVariants as steps

-- the items of a piece, part by part
items_are : (level : LevelView) (piece : PieceView) (placed : List Placed) (parts : List Part) → ArePartsOf level.file level.piece piece placed → HasParts piece.text parts → map (item_of_part (spot_at level piece)) parts ≡ map placed_item placed
items_are level piece placed parts are divided = grind (arith, named_are are.units, map-map placed_item (placed_part level.file level.piece piece.key) (named_parts are.units), map-map) steps 200000

-- the piece of a step's items is held
pub spot_held : (view : FilesView) (old new : WalkView) (spot : PlacedPiece) → HoldsPieces view → IsStep (files_in view) old (steps.Items spot) new → IsSome (finite.get view.pieces spot.key.at)
spot_held view old new spot holds (inl p) =
    let there = next_there view p.level p.piece p.is_here.there in
    subst (λ (spot : PlacedPiece). IsSome (finite.get view.pieces spot.key.at)) (sym p.is_spot) (held_there view p.level.file p.level.piece there.file p.piece.key.at holds there.there there.is_key)
spot_held view old new spot holds (inr p) =
    let there = next_there view p.level p.piece p.is_here.there in
    subst (λ (spot : PlacedPiece). IsSome (finite.get view.pieces spot.key.at)) (sym p.is_spot) (held_there view p.level.file p.level.piece there.file p.piece.key.at holds there.there there.is_key)

-- its text is the one under its key
own_parts : (view : FilesView) (level : LevelView) (piece : PieceView) (spot : PlacedPiece) (parts : List Part) → PieceThere view level.file level.piece piece
    → spot ≡ spot_at level piece → HasParts (text_under view.pieces spot.key.at) parts → HasParts piece.text parts
own_parts view level piece spot parts there is divided = grind (arith, elements) steps 200000

module _ (one_reading : OneReading) (one_division : OneDivision) (view : FilesView) (hold : HoldUnits (files_in view)) (top : List ℕ) (items : List Item) (old new : WalkView) (is : IsWalk (files_in view) top items old) where
  pub walk_items : (spot : PlacedPiece) (parts : List Part) → IsStep (files_in view) old (steps.Items spot) new → HasParts (text_under view.pieces spot.key.at) parts → IsWalk (files_in view) top (items ++ map (item_of_part spot) parts) new
  walk_items spot parts (inl p) divided =
      let own = own_parts view p.level p.piece spot parts (next_there view p.level p.piece p.is_here.there) p.is_spot divided in
      let same = ap (λ spot. map (item_of_part spot) parts) p.is_spot ∙ items_are p.level p.piece p.nothing.placed parts p.nothing.are_parts own in
      subst (λ gained. IsWalk (files_in view) top (items ++ gained) new) (sym same)
      (walk_on (files_in view) top items (map placed_item p.nothing.placed) old new is (passes one_reading one_division (files_in view) old new spot is.pending p is.are_pending))
  walk_items spot parts (inr p) divided =
      let own = own_parts view p.level p.piece spot parts (next_there view p.level p.piece p.is_here.there) p.is_spot divided in
      let same = ap (λ spot. map (item_of_part spot) parts) p.is_spot ∙ items_are p.level p.piece (p.includes.part ∷ []) parts p.includes.are_parts own in
      subst (λ gained. IsWalk (files_in view) top (items ++ gained) new) (sym same)
      (walk_on (files_in view) top items (placed_item p.includes.part ∷ []) old new is (passes_told one_reading one_division (files_in view) old new spot is.pending p is.are_pending))

  pub walk_nothing : IsStep (files_in view) old steps.Nothing new → IsWalk (files_in view) top items new
  walk_nothing (inl l) = subst (λ l. IsWalk (files_in view) top l new) (append-nil items) (walk_on (files_in view) top items [] old new is (leaves (files_in view) old new is.pending l is.are_pending))
  walk_nothing (inr (inl a)) = subst (λ l. IsWalk (files_in view) top l new) (append-nil items) (walk_on (files_in view) top items [] old new is (comes_again one_reading one_division (files_in view) old new is.pending a is.are_pending))
  walk_nothing (inr (inr e)) = subst (λ l. IsWalk (files_in view) top l new) (append-nil items) (walk_on (files_in view) top items [] old new is (enters one_reading one_division (files_in view) hold old new is.pending e is.are_pending))

  pub walk_tells : (name : List ℕ) → Tells (files_in view) old name new → IsWalk (files_in view) top items new
  walk_tells name t = subst (IsWalk (files_in view) top items) (sym t.after) (record {
    number = is.number;
    file = is.file;
    is_top = is.is_top;
    there = is.there;
    parts = is.parts;
    placed = is.placed;
    pending = is.pending;
    are_pending = is.are_pending;
    goes = is.goes;
  })
