-- The starts of a file after its keys and the pieces have changed.
use Rattle.std.proofs.Common.{◌≡◌, ℕ, List, Some, map, arith, Vec, slice_get}
use Rattle.mm_store.specs.{declared.file_text.FileText.{FileText}, Language.{Pieces.{Pieces, text_under}, FilesView.{plain_file}, Undoing.{keys_in}}, Code.Starts.{KnowsStarts}}
use Rattle.mm_store.{specs.Code.Kept.{keyed_file, HaveStarts}, proofs.lemmas.files.{ListLemmas.{plain_pieces}, EntryLemmas.{texts_of, keys_at, starts_at}}}

-- where the pieces of a file begin, by its keys
pub starts_here : {Y : Type 0} (p p1 : Pieces) (es : List (Vec ℕ Y × FileText)) (n : ℕ) (v : FileText) → HaveStarts (map (plain_file p) (map keyed_file es)) es → slice_get (texts_of es) n ≡ Some v
    → map (text_under p1) (keys_in (map keyed_file es) n) ≡ map (text_under p) (keys_in (map keyed_file es) n) → KnowsStarts p1 v
starts_here p p1 es n v have here same = grind (arith, plain_pieces p (map keyed_file es) n, keys_at es n v here, starts_at (map (plain_file p) (map keyed_file es)) es n v have here) steps 200000
