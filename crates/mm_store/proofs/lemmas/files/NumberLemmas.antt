-- Files by name, and files without keys.
use Rattle.std.proofs.lemmas.{Grind.{common_steps}, List.{length-map}, Option.{same_Some, none-some}}
use Rattle.std.{proofs.Common.{◌≡◌, ℕ, zero, suc, ◌<◌, List, [], ◌∷◌, Some, length, map, set, refl, ap, arith, Vec, position, slice_get}, specs.{List.{position_or_len}, Str.{bytes_eq}, Map.{keys_of}}}
use Rattle.mm_store.specs.{declared.file_text.FileText.{FileText}, Language.{Pieces.{Pieces, text_under}, FilesView.{File, KeyedFile, FilesView, plain, plain_file, file_number}, Undoing.{keys_in}}}
use Rattle.mm_store.specs.{Language.Edits.{with_members}, Code.{Edited.{pieces_in, with_pieces}, Kept.{keyed_file}}}

module _ {Y : Type 0} (p : Pieces) (name : List ℕ) where
  names_before : (entries : List (Vec ℕ Y × FileText)) → position_or_len (λ file. bytes_eq name file.name) (map (plain_file p) (map keyed_file entries)) ≡ position_or_len (λ key. bytes_eq name key.items) (keys_of entries)
  names_before [] = refl
  names_before (e ∷ entries) = grind (arith, common_steps, names_before entries) steps 200000

  -- the number that a name has in the map is its number among the files
  pub number_is : (entries : List (Vec ℕ Y × FileText)) → file_number (map (plain_file p) (map keyed_file entries)) name ≡ position (λ key. bytes_eq name key.items) (keys_of entries)
  number_is entries = grind (arith, common_steps, length-map, names_before) steps 200000

-- the file of a number, without keys
pub record IsThere (view : FilesView) (number : ℕ) : Type 0 where
  pub file : File
  pub there : slice_get (plain view) number ≡ Some file
  pub members : pieces_in (plain view) number ≡ file.pieces
  pub count : length file.pieces ≡ length (keys_in view.keyed number)

pub file_there : (keyed : List KeyedFile) (p : Pieces) (n : ℕ) → n < length keyed → IsThere (record { keyed = keyed; pieces = p }) n
file_there [] p n lt = absurd (omega arith)
file_there (file ∷ files) p zero lt = record { file = plain_file p file; there = refl; members = refl; count = length-map file.keys (text_under p) }
file_there (file ∷ files) p (suc n) lt = grind (arith, common_steps, file_there files p n (omega arith)) steps 200000

-- other members in the file of a number
pub with_pieces_is : (files : List File) (n : ℕ) (file : File) (members : List (List ℕ)) → slice_get files n ≡ Some file → with_pieces files n members ≡ set files n (with_members file members)
with_pieces_is (x ∷ files) (suc n) file members there = ap (λ fs. x ∷ fs) (with_pieces_is files n file members there)
with_pieces_is files n file members there = grind (arith, common_steps, none-some, same_Some) steps 200000
