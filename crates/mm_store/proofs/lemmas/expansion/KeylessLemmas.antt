-- Files that differ in the keys of their pieces alone give items that differ in their keys alone.
use Rattle.std.proofs.{Common.{rules, arith, ◌≡◌, ℕ, ◌+◌, List, [], ◌∷◌, Some, map, refl, sym, ap, ◌∙◌, subst, slice_get}, lemmas.{List.{length-map, map-append}, Grind.{common_steps}}}
use Rattle.std.{proofs.lemmas.{Option.{slice_get-map}, Simd.{map-map}}, specs.Option.{option_map}}
use Rattle.mm_store.{proofs.lemmas.{files.ViewLemmas.{before_map}, expansion.ExpansionLemmas.{OneReading, OneDivision, expansion_one}}, specs.declared.item.Item.{Item}}
use Rattle.mm_store.specs.Language.FilesView.{PieceView, FileView, FilesView, files_in, plain, number_of, without_keys}
use Rattle.mm_store.specs.Language.Expansion.{Placed, named_parts, placed_part, ArePartsOf, ArePlaced, Expands, nothing, own, again, missing, included, IsExpansion}
use Rattle.mm_store.specs.Language.Keyless.{one_key, bare_file, bare, keyless_placed, keyless_item}

-- a piece, and a file, under one key
abbrev pub keyless_piece : PieceView → PieceView
keyless_piece piece = record { key = one_key; text = piece.text }

abbrev pub keyless_file : FileView → FileView
keyless_file file = record { name = file.name; pieces = map keyless_piece file.pieces; tail = file.tail }

all_keyless : (files : List FileView) → map keyless_file files ≡ map bare_file (map without_keys files)
all_keyless [] = refl
all_keyless (file ∷ files) = grind (arith, common_steps, all_keyless files, map-map) steps 200000

-- the files with keys and texts, without keys
pub keyless_bare : (view : FilesView) → map keyless_file (files_in view) ≡ bare (plain view)
keyless_bare view = grind (arith, common_steps, all_keyless, map-map) steps 200000

pub same_keyless : (a b : List FileView) → map without_keys a ≡ map without_keys b → map keyless_file a ≡ map keyless_file b
same_keyless a b same = all_keyless a ∙ ap (map bare_file) same ∙ sym (all_keyless b)

-- a name has the same number among the files without keys
pub number_keyless : (files : List FileView) (name : List ℕ) → number_of (map keyless_file files) name ≡ number_of files name
number_keyless files name = grind (arith, common_steps, before_map, length-map) steps 200000

there_keyless : (files : List FileView) (number : ℕ) (file : FileView) → slice_get files number ≡ Some file → slice_get (map keyless_file files) number ≡ Some (keyless_file file)
there_keyless files number file there = slice_get-map keyless_file files number ∙ ap (option_map keyless_file) there

pub parts_keyless : (file n : ℕ) (piece : PieceView) (placed : List Placed) → ArePartsOf file n piece placed → ArePartsOf file n (keyless_piece piece) (map keyless_placed placed)
parts_keyless file n piece placed are = grind (arith, common_steps, map-map keyless_placed (placed_part file n piece.key) (named_parts are.units)) steps 200000

placed_keyless : (file n : ℕ) (pieces : List PieceView) (placed : List Placed) → ArePlaced file n pieces placed → ArePlaced file n (map keyless_piece pieces) (map keyless_placed placed)
placed_keyless file n [] placed are = ap (map keyless_placed) are
placed_keyless file n (piece ∷ pieces) placed are =
    (map keyless_placed are.0, map keyless_placed are.1, parts_keyless file n piece are.0 are.2, placed_keyless file (n + 1) pieces are.1 are.3, ap (map keyless_placed) are.4 ∙ map-append keyless_placed are.0 are.1)

pub expands_keyless : {files : List FileView} {parts : List Placed} {names after : List (List ℕ)} {items : List Item}
    → Expands files parts names items after → Expands (map keyless_file files) (map keyless_placed parts) names (map keyless_item items) after
expands_keyless nothing = nothing
expands_keyless (own not d) = own not (expands_keyless d)
expands_keyless (again is old d) = again is old (expands_keyless d)
expands_keyless {files} (missing {part = part} is new none d) = missing is new (number_keyless files part.name ∙ none) (expands_keyless d)
expands_keyless {files} {names = names} {after = after} (included {part = part} {parts = parts} {inner = inner} {gained = gained} {items = items} {number = number} {file = file} is new at there placed inside d) =
    subst (λ all. Expands (map keyless_file files) (map keyless_placed (part ∷ parts)) names all after) (sym (map-append keyless_item gained items))
    (included is new (number_keyless files part.name ∙ at) (there_keyless files number file there) (placed_keyless number 0 file.pieces inner placed) (expands_keyless inside) (expands_keyless d))

pub expansion_keyless : (files : List FileView) (top : List ℕ) (items : List Item) → IsExpansion files top items → IsExpansion (map keyless_file files) top (map keyless_item items)
expansion_keyless files top items is = search (rules, expands_keyless, number_keyless, placed_keyless, there_keyless) steps 200000

pub same_items : OneReading → OneDivision → (a b : List FileView) (top : List ℕ) (items others : List Item) → map without_keys a ≡ map without_keys b
    → IsExpansion a top items → IsExpansion b top others → map keyless_item items ≡ map keyless_item others
same_items one_reading one_division a b top items others same p q =
    expansion_one one_reading one_division (map keyless_file b) top (map keyless_item items) (map keyless_item others)
    (subst (λ files. IsExpansion files top (map keyless_item items)) (same_keyless a b same) (expansion_keyless a top items p)) (expansion_keyless b top others q)

-- the meaning of an expansion, without keys
pub expansion_bare : (view : FilesView) (top : List ℕ) (items : List Item) → IsExpansion (files_in view) top items → IsExpansion (bare (plain view)) top (map keyless_item items)
expansion_bare view top items is = subst (λ files. IsExpansion files top (map keyless_item items)) (keyless_bare view) (expansion_keyless (files_in view) top items is)
