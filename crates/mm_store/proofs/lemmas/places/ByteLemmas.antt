-- Where a byte of a piece is in its file, by the fields of `Files`.
use Rattle.std.proofs.{Common.{rules, arith, ◌≡◌, ℕ, ◌+◌, ◌<◌, ◌≤◌, List, [], Some, length, map, take, get_or, sym, ap, ◌∙◌, subst, Global, Vec, slice_get}, lemmas.Grind.{common_steps}}
use Rattle.std.proofs.lemmas.Option.{slice_get-map, slice_get_within, get_or_from_slice_get, same_Some}
use Rattle.mm_store.{proofs.lemmas.{places.PlaceLemmas.{before_in}, files.FileLemmas.{IsShown}}, specs.declared.{file_text.FileText.{FileText}, files.Files.TheInside.{Inside}}}
use Rattle.mm_store.specs.{Language.{Pieces.{Pieces, text_under}, FilesView.{File, FilesView, plain_file, text_of}, FileFacts.{IsByte, piece_offset}}, Code.Lines.{bytes_before}}
use Rattle.mm_store.specs.Code.Kept.{files_view, keyed_file}

-- a byte of one of these texts, and the bytes of all before it
pub record IsIn (texts : List (List ℕ)) (piece at : ℕ) (before : List ℕ) : Type 0 where
  pub piece_in : piece < length texts
  pub within : at ≤ length (get_or texts piece [])
  pub is_before : before ≡ bytes_before texts piece at

in_file : (file : File) (piece at : ℕ) (bytes : List ℕ) → slice_get file.pieces piece ≡ Some bytes → at ≤ length bytes → IsIn file.pieces piece at (take (piece_offset file piece + at) (text_of file))
in_file file piece at bytes there within = search (rules, before_in, get_or_from_slice_get, slice_get_within) steps 200000

module _ {inside : Inside} {number : ℕ} {entry : Vec ℕ Global × FileText} {view : FilesView} {piece at : ℕ} {text : List ℕ} {offset : ℕ} (had : IsShown inside number entry)
    (is : files_view inside ≡ view) (byte : IsByte view number piece at text offset) where
  abbrev p : Pieces
  p = inside.pieces

  file_is : byte.file ≡ plain_file p (keyed_file entry)
  file_is = grind (arith, common_steps, same_Some, slice_get-map) steps 200000

  pub byte_in : IsIn (map (text_under p) entry.1.keys.items) piece at (take offset text)
  byte_in =
      let before = ap (λ n. take n text) byte.is_offset ∙ ap (take (piece_offset byte.file piece + at)) byte.is_text in
      let found = in_file byte.file piece at byte.bytes byte.is_piece byte.within in
      subst (λ (file : File). IsIn file.pieces piece at (take offset text)) file_is (subst (IsIn byte.file.pieces piece at) (sym before) found)
