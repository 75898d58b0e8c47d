-- Files by number: their names; and what is reported of an item names one of them.
use Rattle.std.proofs.{Common.{rules, ◌≡◌, ℕ, ◌<◌, List, [], Some, length, slice_get, sym, subst, slice_index_or}, lemmas.Option.{slice_get-map, slice_get_within, get_or_from_slice_get}}
use Rattle.std.{proofs.lemmas.{List.{length-map}, Simd.{map-map}}, specs.Option.{option_map}}
use Rattle.mm_keep.specs.{mm_store.Language.FilesView.{KeyedFile, FilesView, File, plain, plain_file}, mm_statement.Language.Database.{Located}, declared.finding.At.{At}}
use Rattle.mm_keep.specs.Language.{Told.{Told, Incomplete, Wrong, Fault, IsRightlyTold}, WordPlaces.{HasPlace}}
use Rattle.mm_report.specs.{Code.InFiles.{IsInFiles}, Language.Report.{names_of}}

-- the name of a file, by its number
pub name_is : (files : FilesView) (n : ℕ) (name : List ℕ) → option_map (λ (file : KeyedFile). file.name) (slice_get files.keyed n) ≡ Some name → slice_index_or (names_of (plain files)) n [] ≡ name
name_is files n name is = search (rules, get_or_from_slice_get, map-map, slice_get-map)

-- a number is that of a file, with keys and without
pub keyed_within : (files : FilesView) (n : ℕ) → n < length (plain files) → n < length files.keyed
keyed_within files n within = subst (λ (k : ℕ). n < k) (length-map files.keyed (plain_file files.pieces)) within

-- a place of a word of an item is in one of the files
placed_in : (files : List File) (item : Located) (word letter : ℕ) (at : At) → HasPlace files item word letter at → at.file < length files
placed_in files item word letter at place = subst (λ (n : ℕ). n < length files) (sym place.in_file) (slice_get_within files item.file place.file place.there)

-- so is what is rightly reported of an item
pub told_in : (files : List File) (items : List Located) (n : ℕ) (one : Told) → IsRightlyTold files items n one → IsInFiles (length files) one
told_in files items n (Incomplete at) f = placed_in files f.is_place.item _ _ at f.is_place.has_place
told_in files items n (Wrong number at) f = placed_in files f.is_place.item _ _ at f.is_place.has_place
told_in files items n (Fault number shown) f = placed_in files f.item _ _ shown.at f.is_shown.has_place
told_in files items n _ f = tt
