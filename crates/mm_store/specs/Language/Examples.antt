-- Some files, and the items that they give.
use Rattle.std.specs.Prelude.{ℕ, List, [], ◌∷◌, codes}
use Rattle.mm_store.specs.declared.item.Item.{Item}
use Rattle.mm_store.specs.declared.item.ItemKind.{ItemKind}
use Rattle.mm_store.specs.declared.item.ItemKind.TheVariants.{Constants, Variables, Missing}
use Rattle.mm_store.specs.Language.FilesView.{FileView, PieceView, key_of}
use Rattle.mm_store.specs.Language.Expansion.{IsExpansion}

-- a piece with this key and this text
abbrev pub piece : ℕ → List ℕ → PieceView
piece key text = record { key = key_of key; text = text }

-- an item of this kind: of the file and the piece with these numbers, under this key; from the first byte of the piece to before this one
abbrev pub item : ItemKind → ℕ → ℕ → ℕ → ℕ → Item
item kind file piece key end = record { kind = kind; file = file; piece = piece; key = key_of key; start = 0; end = end }

-- Two files that include each other: their inclusions are a ring. The second one also includes a file that is missing, twice.
abbrev pub ring : List FileView
ring =
    record { name = codes "top.mm"; pieces = piece 0 (codes "$[ sub.mm $]\n") ∷ piece 1 (codes "$c x $.\n") ∷ []; tail = [] }
    ∷ record {
      name = codes "sub.mm";
      pieces = piece 2 (codes "$[ top.mm $]\n") ∷ piece 3 (codes "$v y $.\n") ∷ piece 4 (codes "$[ none.mm $]\n") ∷ piece 5 (codes "$[ none.mm $]\n") ∷ [];
      tail = codes "\n";
    }
    ∷ []

-- Read from `top.mm` on, the ring gives three items. The items of `sub.mm` are in the place of its inclusion: its inclusion of the top
-- file gives nothing, its `$v` is an item, and so is the first reference to `none.mm`; the second one gives nothing. Then the `$c` of
-- `top.mm` follows.
abbrev pub RingGivesThree : Type 0
RingGivesThree = IsExpansion ring (codes "top.mm") (item Variables 1 1 3 7 ∷ item Missing 1 2 4 13 ∷ item Constants 0 1 1 7 ∷ [])
