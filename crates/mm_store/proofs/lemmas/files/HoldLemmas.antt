-- A key that is in a file has a piece.
use Rattle.std.proofs.{Common.{rules, ℕ, suc, ◌<◌, ◌≤◌, List, ◌∷◌, length, get_or, arith}, lemmas.Grind.{common_steps}}
use Rattle.mm_store.specs.{declared.files.Files.TheInside.{Inside}, Language.{FilesView.{KeyedFile}, FileFacts.{HoldsPieces}}, Code.Kept.{files_view, places, AreFilesKept}}
use Rattle.mm_store.proofs.lemmas.files.{AddLemmas.{stands_some}, ListLemmas.{times_at}}

key_places : (files : List KeyedFile) (m n : ℕ) (file : KeyedFile) (d : ℕ) → m < length files → n < length (get_or files m file).keys → 1 ≤ places (get_or (get_or files m file).keys n d) files
key_places (first ∷ files) (suc m) n file d h k = omega (arith, key_places files m n file d (omega arith) k)
key_places files m n file d h k = grind (arith, common_steps, times_at) steps 200000

pub pieces_held : (inside : Inside) → AreFilesKept inside → HoldsPieces (files_view inside)
pieces_held inside kept m file h n d k = search (rules, key_places, stands_some) steps 200000
