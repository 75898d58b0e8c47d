-- The pieces of items are in their files, and their texts can be read.
use Rattle.std.{proofs.{lemmas.{Grind.{common_steps}, List.Elements.{recursion_from_All}}, Common.{◌≡◌, ℕ, List, [], ◌∷◌, Some, map, sym, subst, arith, slice_get, All}}, specs.List.{AllByRecursion}}
use Rattle.mm_text.specs.Language.{Unit.{Units}, Part.{HasUnits, IsReadable, parts_of}}
use Rattle.mm_store.specs.{declared.item.Item.{Item}, Language.{Pieces.{text_under}, FilesView.{KeyedFile, PieceView, FileView, FilesView, files_in}, FileFacts.{CanBeRead, StandsIn, HoldsPieces}}}
use Rattle.mm_store.specs.Language.Expansion.{Placed, placed_item, Named, named_parts, placed_part, ArePartsOf, IsExpansion}
use Rattle.mm_store.proofs.lemmas.{expansion.NameLemmas.{all_mapped, expansion_each, named_are}, files.ViewLemmas.{PieceThere, piece_there, held_there, some_is}}
use Rattle.std.specs.FinMap as finite

abbrev pub PartsAreTexts : Type 0
PartsAreTexts = (text : List ℕ) (units : Units) → HasUnits text units → All (IsReadable text) (parts_of units)

-- where the piece of a part is, and that the part is a text in it
record Stands (view : FilesView) (part : Placed) : Type 0 where
  pub file : KeyedFile
  pub there : slice_get view.keyed part.file ≡ Some file
  pub is_key : slice_get file.keys part.piece ≡ Some part.key.at
  pub readable : IsReadable (text_under view.pieces part.key.at) part.part

stands_in : (view : FilesView) (part : Placed) → Stands view part → StandsIn view (placed_item part)
stands_in view part h = record { file = h.file; there = h.there; is_key = h.is_key }

can_be_read : (view : FilesView) (part : Placed) → HoldsPieces view → Stands view part → CanBeRead view (placed_item part)
can_be_read view part holds h = grind (arith, common_steps, some_is (finite.get view.pieces part.key.at) (held_there view part.file part.piece h.file part.key.at holds h.there h.is_key)) steps 200000

parts_stand : (view : FilesView) (number n : ℕ) (piece : PieceView) (parts : List Named) → AllByRecursion (λ named. IsReadable piece.text named.part) parts
    → PieceThere view number n piece → AllByRecursion (Stands view) (map (placed_part number n piece.key) parts)
parts_stand view number n piece [] h there = tt
parts_stand view number n piece (part ∷ parts) h there = grind (arith, common_steps, parts_stand view number n piece parts h.1 there) steps 200000

module _ (parts_are_texts : PartsAreTexts) (view : FilesView) where
  each_stands : (number m : ℕ) (file : FileView) (piece : PieceView) (parts : List Placed) → slice_get (files_in view) number ≡ Some file
      → slice_get file.pieces m ≡ Some piece
      → ArePartsOf number m piece parts → AllByRecursion (Stands view) parts
  each_stands number m file piece parts there here of =
      let units : HasUnits piece.text of.units = record { words = of.words; has_words = of.has_words; are_units = of.are_units; spells = of.spells } in
      let readable = recursion_from_All (IsReadable piece.text) (parts_of of.units) (parts_are_texts piece.text of.units units) in
      let named = all_mapped (IsReadable piece.text) (λ named. named.part) (named_parts of.units)
      (subst (AllByRecursion (IsReadable piece.text)) (sym (named_are of.units)) readable) in
      subst (AllByRecursion (Stands view)) (sym of.parts)
      (parts_stand view number m piece (named_parts of.units) named (piece_there view number file m piece there here))

  pub expansion_stands : (top : List ℕ) (items : List Item) → IsExpansion (files_in view) top items → All (StandsIn view) items
  expansion_stands top items is = expansion_each (files_in view) (Stands view) (StandsIn view) each_stands (λ part none h. stands_in view part h) top items is

  pub expansion_read : HoldsPieces view → (top : List ℕ) (items : List Item) → IsExpansion (files_in view) top items → All (CanBeRead view) items
  expansion_read holds top items is =
      expansion_each (files_in view) (Stands view) (CanBeRead view) each_stands (λ part none h. can_be_read view part holds h) top items is
