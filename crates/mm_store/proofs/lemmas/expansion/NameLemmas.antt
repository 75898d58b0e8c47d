-- The names of inclusions: those of the units, and the second words of the items' own bytes.
use Rattle.std.proofs.{Common.{rules, ◌≡◌, ℕ, suc, ◌+◌, false, List, [], ◌∷◌, ◌++◌, Some, None, map, refl, sym, ap, ◌∙◌, subst, length, arith, All, slice_get}, lemmas.Grind.{common_steps}}
use Rattle.std.{proofs.lemmas.List.{map-append, Elements.{All-from_recursion}}, specs.List.{AllByRecursion}}
use Rattle.mm_text.specs.{declared.{word.Word.{Word}, part.PartKind.{PartKind}}, Language.Reading.{HasWords}}
use Rattle.mm_text.specs.Language.Unit.{Shape, Inclusion, shape_tokens, IsShape, Units, Nothing, Simple, Block, AreUnits, spellings, tokens_of}
use Rattle.mm_text.specs.Language.{Part.{HasUnits, part, part_bytes, parts_of, shape_part}, Cut.{IsOneUnit, HoldsOneUnit}}
use Rattle.mm_store.specs.{declared.item.Item.{Item}, Language.{Pieces.{text_under}, FilesView.{PieceView, FileView, FilesView, files_in, number_of}, FileFacts.{NamesNoFile, second_word}}}
use Rattle.mm_store.specs.Language.Expansion.{Named, Placed, IsInclusion, included_name, item_kind, placed_item, named_parts, placed_part, ArePartsOf, ArePlaced, Expands, nothing, own, again, missing}
use Rattle.mm_store.{specs.{Language.Expansion.{included, IsExpansion}, Code.Gains.{IsNamed, HoldUnits}}, proofs.lemmas.expansion.ExpansionLemmas.{OneReading, OneDivision}}
use Rattle.mm_store.proofs.lemmas.files.ViewLemmas.{piece_there}
use Rattle.mm_text.specs.declared.part.PartKind.TheVariants as parts
use Rattle.mm_store.specs.declared.item.ItemKind.TheVariants as items

-- the named parts are the parts
pub named_are : (units : Units) → map (λ named. named.part) (named_parts units) ≡ parts_of units
named_are Nothing = refl
named_are (Simple shape later) = ap (λ ps. shape_part shape ∷ ps) (named_are later)
named_are (Block begin inner end later) = grind (arith, common_steps, named_are inner, named_are later, map-append) steps 200000

pub all_mapped : {X Y : Type 0} (P : Y → Type 0) (f : X → Y) (xs : List X) → AllByRecursion P (map f xs) → AllByRecursion (λ x. P (f x)) xs
all_mapped P f [] h = tt
all_mapped P f (x ∷ xs) h = (h.0, all_mapped P f xs h.1)

pub all_and : {X : Type 0} (P : X → Type 0) (xs ys : List X) → AllByRecursion P xs → AllByRecursion P ys → AllByRecursion P (xs ++ ys)
all_and P [] ys a b = b
all_and P (x ∷ xs) ys a b = (a.0, all_and P xs ys a.1 b)

second_of : (bytes : List ℕ) (words : List Word) (first name last : List ℕ) → spellings bytes words ≡ first ∷ name ∷ last ∷ [] → name ≡ second_word bytes words
second_of bytes (word ∷ other ∷ words) first name last e = cc
second_of bytes _ first name last e = absurd (omega (arith, ap length e))

pub inner_kind : (shape : Shape) → IsShape false shape → (shape_part shape).kind ≡ parts.Inclusion → ⊥
inner_kind shape is e = grind (arith, common_steps) steps 200000

-- in a block nothing is included
inner_named : (text : List ℕ) (units : Units) → AreUnits false units → AllByRecursion (IsNamed text) (named_parts units)
inner_named text Nothing are = tt
inner_named text (Simple shape later) are = (λ e. absurd (inner_kind shape are.0 e), inner_named text later are.1)
inner_named text (Block begin inner end later) are = grind (arith, common_steps, inner_named text inner are.1, inner_named text later are.3, all_and) steps 200000

-- a statement that is alone in its text has these words
abbrev pub StandsAlone : Type 0
StandsAlone = (text : List ℕ) (shape : Shape) (own : List Word) → HasUnits text (Simple shape Nothing) → HasWords (part_bytes text (shape_part shape)) own
    → spellings (part_bytes text (shape_part shape)) own ≡ map (λ token. token.bytes) (shape_tokens shape)

pub kind_missing : (kind : PartKind) → item_kind kind ≡ items.Missing → kind ≡ parts.Inclusion
kind_missing kind e = grind (arith, common_steps) steps 200000

-- what holds of the parts of each piece holds of all parts of a file
placed_each : (S : Placed → Type 0) (number n : ℕ) (pieces : List PieceView) (placed : List Placed)
    → ((k m : ℕ) (piece : PieceView) (parts : List Placed) → m ≡ n + k → slice_get pieces k ≡ Some piece → ArePartsOf number m piece parts → AllByRecursion S
    parts)
    → ArePlaced number n pieces placed → AllByRecursion S placed
placed_each S number n [] placed each are = subst (AllByRecursion S) (sym are) tt
placed_each S number n (piece ∷ pieces) placed each are =
    let later = placed_each S number (n + 1) pieces are.1 (λ k m piece parts e there of. each (suc k) m piece parts (omega (arith, e)) there of) are.3 in
    subst (AllByRecursion S) (sym are.4) (all_and S are.0 are.1 (each 0 n piece are.0 (omega arith) refl are.2) later)

-- and what then holds of the items of parts holds of all items
module _ (files : List FileView) (S : Placed → Type 0) (P : Item → Type 0)
    (each : (number m : ℕ) (file : FileView) (piece : PieceView) (parts : List Placed) → slice_get files number ≡ Some file → slice_get file.pieces m ≡ Some
    piece
    → ArePartsOf number m piece parts → AllByRecursion S parts)
    (found : (part : Placed) → (IsInclusion part → number_of files part.name ≡ None) → S part → P (placed_item part)) where
  placed_all : (number : ℕ) (file : FileView) (placed : List Placed) → slice_get files number ≡ Some file → ArePlaced number 0 file.pieces placed
      → AllByRecursion S placed
  placed_all number file placed there are = placed_each S number 0 file.pieces placed (λ k m piece parts e here of.
      (let same : k ≡ m = omega (arith, e) in each number m file piece parts there (subst (λ k. slice_get file.pieces k ≡ Some piece) same here) of)) are

  items_each : {parts : List Placed} {names after : List (List ℕ)} {items : List Item} → Expands files parts names items after → AllByRecursion S parts
      → AllByRecursion P items
  items_each nothing h = tt
  items_each (own {part = part} not d) h = (found part (λ is. absurd (not is)) h.0, items_each d h.1)
  items_each (again is old d) h = items_each d h.1
  items_each (missing {part = part} is new none d) h = (found part (λ is. none) h.0, items_each d h.1)
  items_each (included {inner = inner} {gained = gained} {items = items} {number = number} {file = file} is new at there placed inside d) h =
      all_and P gained items (items_each inside (placed_all number file inner there placed)) (items_each d h.1)

  pub expansion_each : (top : List ℕ) (items : List Item) → IsExpansion files top items → All P items
  expansion_each top items is = All-from_recursion P items (items_each is.expands (placed_all is.number is.file is.parts is.there is.placed))

-- the text under the key of a part has the part, and its name
abbrev Tied : FilesView → Placed → Type 0
Tied view part = IsNamed (text_under view.pieces part.key.at) (record { part = part.part; name = part.name })

piece_tied : (view : FilesView) (number n : ℕ) (piece : PieceView) (named : List Named) → AllByRecursion (IsNamed piece.text) named → piece.text ≡ text_under view.pieces piece.key.at
    → AllByRecursion (Tied view) (map (placed_part number n piece.key) named)
piece_tied view number n piece [] h same = tt
piece_tied view number n piece (part ∷ named) h same = (subst (λ text. IsNamed text part) same h.0, piece_tied view number n piece named h.1 same)

item_tied : (view : FilesView) (part : Placed) → (IsInclusion part → number_of (files_in view) part.name ≡ None) → Tied view part
    → NamesNoFile view (placed_item part)
item_tied view part none tied kind text words live has = search (rules, kind_missing part.part.kind kind) steps 200000

module _ (stands_alone : StandsAlone) where
  one_named : (text : List ℕ) (shape : Shape) → HasUnits text (Simple shape Nothing) → IsNamed text (record { part = shape_part shape; name = included_name shape })
  one_named text (Inclusion begin name end) units e words has =
      let bytes = part_bytes text (shape_part (Inclusion begin name end)) in
      second_of bytes words begin.bytes name.bytes end.bytes (stands_alone text (Inclusion begin name end) words units has)
  one_named text shape units e words has = grind (arith, common_steps) steps 200000

  pub all_named : (text : List ℕ) (units : Units) → HasUnits text units → IsOneUnit units → AllByRecursion (IsNamed text) (named_parts units)
  all_named text (Block begin inner end Nothing) units one = search (rules, all_and, inner_named) steps 200000
  all_named text units has one = grind (arith, common_steps, one_named) steps 200000

module _ (one_reading : OneReading) (one_division : OneDivision) (stands_alone : StandsAlone) where
  unit_named : (text : List ℕ) (units : Units) → HasUnits text units → HoldsOneUnit text → AllByRecursion (IsNamed text) (named_parts units)
  unit_named text units has holds =
      let words : has.words ≡ holds.words = one_reading text has.words holds.words has.has_words holds.has_words in
      let same : units ≡ holds.units = one_division units holds.units has.are_units holds.are_units (has.spells ∙ ap (tokens_of text) words ∙ sym holds.spells) in
      all_named stands_alone text units has (subst IsOneUnit (sym same) holds.one)

  parts_tied : (view : FilesView) → HoldUnits (files_in view) → (number m : ℕ) (file : FileView) (piece : PieceView) (parts : List Placed)
      → slice_get (files_in view) number ≡ Some file
      → slice_get file.pieces m ≡ Some piece → ArePartsOf number m piece parts → AllByRecursion (Tied view) parts
  parts_tied view hold number m file piece parts there here of =
      let units : HasUnits piece.text of.units = record { words = of.words; has_words = of.has_words; are_units = of.are_units; spells = of.spells } in
      let named = unit_named piece.text of.units units (hold number file there m piece here) in
      subst (AllByRecursion (Tied view)) (sym of.parts)
      (piece_tied view number m piece (named_parts of.units) named (piece_there view number file m piece there here).text)

  pub expansion_names : (view : FilesView) (top : List ℕ) (items : List Item) → HoldUnits (files_in view) → IsExpansion (files_in view) top items → All (NamesNoFile view) items
  expansion_names view top items hold is = expansion_each (files_in view) (Tied view) (NamesNoFile view) (parts_tied view hold) (item_tied view) top items is
