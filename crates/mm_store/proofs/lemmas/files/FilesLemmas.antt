-- Files by name and by number, their keys and their texts.
use Rattle.std.proofs.{lemmas.{Grind.{common_steps}, Option.{slice_get-map}}, Common.{◌≡◌, ℕ, ◌<◌, ◌≤◌, List, Some, is_some, true, length, map, get_or, ap, ◌∙◌, arith, slice_get, position, Vec}}
use Rattle.std.specs.{List.{concat}, Str.{bytes_eq}, Map.{keys_of}}
use Rattle.mm_store.specs.{declared.file_text.FileText.{FileText}, Language.{Pieces.{Pieces, text_under}, FilesView.{KeyedFile, plain_file, find_file, bytes_of}, Undoing.{keys_in}}}
use Rattle.mm_store.{specs.Code.Kept.{keyed_file, places, standing_count}, proofs.lemmas.files.{AddLemmas.{stands_some}, ListLemmas.{times_at, places_in, members_within, plain_pieces}}}
use Rattle.mm_store.proofs.lemmas.files.NumberLemmas.{number_is}
use Rattle.std.specs.FinMap as finite

module _ {Y : Type 0} (p : Pieces) (name : List ℕ) (entries : List (Vec ℕ Y × FileText)) where
  pub found_is : (n : ℕ) (entry : Vec ℕ Y × FileText) → Some n ≡ position (λ key. bytes_eq name key.items) (keys_of entries)
      → slice_get entries n ≡ Some entry → find_file (map (plain_file p) (map keyed_file entries)) name ≡ Some (plain_file p (keyed_file entry))
  found_is n entry at there = grind (arith, common_steps, number_is, slice_get-map) steps 200000

-- the key of a place has a piece
pub key_some : (files : List KeyedFile) (p : Pieces) → ((q : ℕ) → places q files ≡ standing_count (finite.get p q)) → (n at d : ℕ) → at < length (keys_in files n) → is_some (finite.get p (get_or (keys_in files n) at d)) ≡ true
key_some files p once n at d lt =
    let key = get_or (keys_in files n) at d in
    stands_some (finite.get p key) (omega (arith, times_at (keys_in files n) at d lt, places_in key files n, once key))

-- the pieces of a file are no longer than all files
pub file_small : (p : Pieces) (files : List KeyedFile) (n : ℕ) (keys : List ℕ) → keys_in files n ≡ keys → length (concat (map (text_under p) keys)) ≤ bytes_of (map (plain_file p) files)
file_small p files n keys is = omega (arith, members_within (map (plain_file p) files) n, ap (λ ts. length (concat ts)) (plain_pieces p files n ∙ ap (map (text_under p)) is))
