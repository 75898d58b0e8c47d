-- Where the pieces of a file begin, as far as it is known.
use Rattle.std.specs.Prelude.{◌≡◌, ℕ, ◌≤◌, List, length, map}
use Rattle.mm_store.specs.declared.file_text.FileText.{FileText}
use Rattle.mm_store.specs.Language.Pieces.{Pieces, text_under}
use Rattle.mm_store.specs.Code.Lines.{AreStartsTo}
use Rattle.mm_store.specs.Code.Room.{HasRoom}

-- the beginnings of pieces with these texts are known, up to one of them or to the tail after them
pub record HasStarts (texts : List (List ℕ)) (file : FileText) : Type 0 where
  pub known : file.known ≤ length texts
  pub starts : AreStartsTo file.known texts file.starts.items

-- the beginnings of the pieces under the keys of the file are known, up to one of them or to the tail after them
abbrev pub KnowsStarts : Pieces → FileText → Type 0
KnowsStarts pieces file = HasStarts (map (text_under pieces) file.keys.items) file

-- the file has these keys now, room for them, and the tail as before; and if it was known where its pieces begin, it is now
pub record HasKeys (pieces : Pieces) (old new : FileText) (keys : List ℕ) : Type 0 where
  pub items : new.keys.items ≡ keys
  pub starts : KnowsStarts pieces old → KnowsStarts pieces new
  pub room : HasRoom new
  pub tail : new.tail ≡ old.tail
