-- Files, parts and items without their keys: one key stands for all.
use Rattle.std.specs.Prelude.{List, map}
use Rattle.mm_store.specs.declared.key.PieceKey.{PieceKey}
use Rattle.mm_store.specs.declared.item.Item.{Item}
use Rattle.mm_store.specs.Language.FilesView.{FileView, File}
use Rattle.mm_store.specs.Language.Expansion.{Placed}

-- the key that stands for every key
abbrev pub one_key : PieceKey
one_key = record { at = 0 }

-- files that are known without keys, under one key
abbrev pub bare_file : File → FileView
bare_file file = record { name = file.name; pieces = map (λ text. record { key = one_key; text = text }) file.pieces; tail = file.tail }

-- files without keys as files whose pieces have all one key
abbrev pub bare : List File → List FileView
bare files = map bare_file files

-- a part of a piece, with the place of the piece, but without its key
abbrev pub keyless_placed : Placed → Placed
keyless_placed placed = record { file = placed.file; piece = placed.piece; key = one_key; name = placed.name; part = placed.part }

-- an item without its key: what remains is its kind, and which bytes it has of which piece of which file
abbrev pub keyless_item : Item → Item
keyless_item item = record { kind = item.kind; file = item.file; piece = item.piece; key = one_key; start = item.start; end = item.end }
