-- Edits and other changes of two small files, and files by keys.
use Rattle.std.specs.Prelude.{◌≡◌, ℕ, ◌<◌, ◌≤◌, ◌↔◌, List, [], ◌∷◌, ◌++◌, Some, None, codes, map, replicate}
use Rattle.std.specs.Borrow.{Bor}
use Rattle.std.specs.FinMap as finite
use Rattle.mm_text.specs.declared.fault.TextNumber.TheVariants.{T01}
use Rattle.mm_text.specs.Language.Asked.{Insert, Replace, Delete, Move, asked}
use Rattle.mm_text.specs.declared.edit.Edit.TheVariants as code
use Rattle.mm_store.specs.declared.edit.EditError.TheVariants.{NoFile, NoPiece, NotOne, Text, TooMany, Memory}
use Rattle.mm_store.specs.declared.error.StoreError.TheVariants as adding
use Rattle.mm_store.specs.Language.Pieces.{Standing, Parked, Replaced, text_under}
use Rattle.mm_store.specs.Language.FilesView.{FilesView, no_files, File, plain, file_number, find_file, text_of, bytes_of}
use Rattle.mm_store.specs.Language.FileFacts.{IsAdded, HoldsPieces, KeepsPieces, parked_in, piece_offset}
use Rattle.mm_store.specs.Language.Edits.{IsEditOf}
use Rattle.mm_store.specs.Language.Appending.{IsAppended}
use Rattle.mm_store.specs.Language.Holding.{HoldOneEach}
use Rattle.mm_store.specs.Language.Answers.{HasTooMany, IsAddError, IsAddErrorIn, IsEditError, IsExpansionError}
use Rattle.mm_store.specs.Language.Batches.{IsBatchOf, IsRefusedAt, StartsPlaced}

-- the statement that declares the constant of this letter, as `$c a $.`, and a line feed
abbrev pub declaring : ℕ → List ℕ
declaring letter = codes "$c " ++ letter ∷ codes " $.\n"

-- the file `a.mm`, of one piece, and the file `b.mm`, which has a piece for each of these letters and a comment as its tail
abbrev pub lettered : List ℕ → List File
lettered letters =
    record { name = codes "a.mm"; pieces = codes "$v y $.\n" ∷ []; tail = [] }
    ∷ record { name = codes "b.mm"; pieces = map declaring letters; tail = codes "$( end $)\n" } ∷ []

-- An edit as a call gets it, and as the definitions see it.
abbrev pub EditsAreSeen : Type 0
EditsAreSeen =
    (file text : Bor (List ℕ))
    → (asked (code.Insert file 3 text) ≡ Insert file.now 3 text.now) × (asked (code.Replace file 3 text) ≡ Replace file.now 3 text.now)
    × (asked (code.Delete file 3) ≡ Delete file.now 3) × (asked (code.Move file 3 4) ≡ Move file.now 3 4)

-- Each edit is of the second file. An insertion comes before the piece that has its number, or behind all. A move counts its new place
-- in the file without the piece. To a text without white space at its end a line feed is added.
abbrev pub EditsAreDone : Type 0
EditsAreDone =
    IsEditOf (Insert (codes "b.mm") 1 (codes "$c e $.")) (lettered (codes "abcd")) (lettered (codes "aebcd"))
    × IsEditOf (Insert (codes "b.mm") 4 (codes "$c e $.\n")) (lettered (codes "abcd")) (lettered (codes "abcde"))
    × IsEditOf (Replace (codes "b.mm") 1 (codes "$c e $.")) (lettered (codes "abcd")) (lettered (codes "aecd"))
    × IsEditOf (Delete (codes "b.mm") 1) (lettered (codes "abcd")) (lettered (codes "acd"))
    × IsEditOf (Move (codes "b.mm") 0 2) (lettered (codes "abcd")) (lettered (codes "bcad"))
    × IsEditOf (Move (codes "b.mm") 2 0) (lettered (codes "abcd")) (lettered (codes "cabd"))

-- No file is `c.mm`. Of four pieces, none has the number 4, and nothing can be put before number 5. A text may have a byte that no
-- text holds, or two units, or none. An edit that brings a text may run out of memory; a deletion may not.
abbrev pub EditsAreRefused : Type 0
EditsAreRefused =
    IsEditError (Delete (codes "c.mm") 0) (lettered (codes "abcd")) NoFile
    × IsEditError (Delete (codes "b.mm") 4) (lettered (codes "abcd")) (NoPiece 4)
    × IsEditError (Move (codes "b.mm") 0 4) (lettered (codes "abcd")) (NoPiece 4)
    × IsEditError (Insert (codes "b.mm") 5 (codes "$c e $.")) (lettered (codes "abcd")) (NoPiece 4)
    × IsEditError (Insert (codes "b.mm") 4 (codes "$c " ++ 127 ∷ codes " $.")) (lettered (codes "abcd")) (Text (record { number = T01; at = 3 }))
    × IsEditError (Replace (codes "b.mm") 1 (codes "$c e $. $c f $.")) (lettered (codes "abcd")) (NotOne 2)
    × IsEditError (Replace (codes "b.mm") 1 (codes "$( end $)")) (lettered (codes "abcd")) (NotOne 0)
    × IsEditError (Replace (codes "b.mm") 1 (codes "$c e $.")) (lettered (codes "abcd")) Memory
    × (¬ IsEditError (Delete (codes "b.mm") 1) (lettered (codes "abcd")) Memory)

-- Whatever the files may be after them, these edits are not done: there is no such file, no such piece, and not one unit. Nor does a
-- deletion take out another piece.
abbrev pub EditsAreNotDone : Type 0
EditsAreNotDone =
    ((after : List File) → ¬ IsEditOf (Delete (codes "c.mm") 0) (lettered (codes "abcd")) after)
    × ((after : List File) → ¬ IsEditOf (Delete (codes "b.mm") 4) (lettered (codes "abcd")) after)
    × ((after : List File) → ¬ IsEditOf (Replace (codes "b.mm") 1 (codes "$c e $. $c f $.")) (lettered (codes "abcd")) after)
    × (¬ IsEditOf (Delete (codes "b.mm") 1) (lettered (codes "abcd")) (lettered (codes "abd")))

-- Each edit is of the files that those before it left: the letter `a` is moved behind `c`, and the first letter, now `b`, is deleted.
abbrev pub BatchIsDone : Type 0
BatchIsDone = IsBatchOf (Move (codes "b.mm") 0 2 ∷ Delete (codes "b.mm") 0 ∷ []) (lettered (codes "abcd")) (lettered (codes "cad"))

-- The second edit, number 1, is refused: the first left three pieces. The third counts no more. Out of memory is no such refusal.
abbrev pub BatchIsRefused : Type 0
BatchIsRefused =
    IsRefusedAt (Delete (codes "b.mm") 3 ∷ Delete (codes "b.mm") 3 ∷ Delete (codes "c.mm") 0 ∷ []) (lettered (codes "abcd")) 1 (NoPiece 3)
    × (¬ IsRefusedAt (Replace (codes "b.mm") 1 (codes "$c e $.") ∷ []) (lettered (codes "abcd")) 0 Memory)
    × StartsPlaced (Delete (codes "b.mm") 3 ∷ Delete (codes "b.mm") 3 ∷ []) (lettered (codes "abcd"))
    × (¬ StartsPlaced (Delete (codes "b.mm") 4 ∷ Delete (codes "b.mm") 3 ∷ []) (lettered (codes "abcd")))

-- Files by their names, and their texts and sizes; the bytes before the second piece of a file. Each piece holds one unit; without white
-- space at its end it would not.
abbrev pub FilesAreFound : Type 0
FilesAreFound =
    (file_number (lettered (codes "ab")) (codes "b.mm") ≡ Some 1)
    × (file_number (lettered (codes "ab")) (codes "b") ≡ None)
    × (find_file (lettered []) (codes "b.mm") ≡ Some (record { name = codes "b.mm"; pieces = []; tail = codes "$( end $)\n" }))
    × (find_file (lettered []) (codes "b") ≡ None)
    × (text_of (record { name = codes "b.mm"; pieces = map declaring (codes "ba"); tail = codes "$( end $)\n" }) ≡ codes "$c b $.\n$c a $.\n$( end $)\n")
    × (bytes_of (lettered (codes "ab")) ≡ 34)
    × (piece_offset (record { name = codes "b.mm"; pieces = map declaring (codes "ba"); tail = codes "$( end $)\n" }) 1 ≡ 8)
    × HoldOneEach (lettered (codes "ab"))
    × (¬ HoldOneEach (lettered (codes "ab") ++ record { name = codes "c.mm"; pieces = codes "$c e $.\n" ∷ codes "$c f $." ∷ []; tail = [] } ∷ []))

-- A text of two statements and a comment becomes a file behind the others: two pieces and a tail. A known name is refused, and so is a
-- byte that no text holds. Files have no items if no file is the top file, or if memory runs out.
abbrev pub TextsAreAdded : Type 0
TextsAreAdded =
    IsAdded (lettered (codes "ab"))
    (lettered (codes "ab") ++ record { name = codes "c.mm"; pieces = codes "$c e $. " ∷ codes "$c f $.\n" ∷ []; tail = codes "$( end $)\n" } ∷ [])
    (codes "c.mm") (codes "$c e $. $c f $.\n$( end $)")
    × IsAppended (codes "b.mm") (lettered (codes "ab")) (lettered (codes "abe"))
    × IsAddError (lettered (codes "ab")) (codes "b.mm") (codes "$c e $.") adding.Known
    × (¬ IsAddError (lettered (codes "ab")) (codes "b.mm") (codes "$c e $.") adding.Memory)
    × IsAddError (lettered (codes "ab")) (codes "c.mm") (codes "$c " ++ 127 ∷ codes " $.") (adding.Text (record { number = T01; at = 3 }))
    × IsAddErrorIn (codes "$c " ++ 127 ∷ codes " $.") (adding.Text (record { number = T01; at = 3 }))
    × (¬ IsAddErrorIn (codes "$c") (adding.Text (record { number = T01; at = 2 })))
    × IsExpansionError adding.NoTop × IsExpansionError adding.Memory × (¬ IsExpansionError adding.Known)

-- one file of this many spaces
abbrev pub spaces : ℕ → List File
spaces count = record { name = codes "a.mm"; pieces = []; tail = replicate count 32 } ∷ []

-- All files together have at most 4,294,967,295 bytes, after an addition and after an edit. The text here has eight bytes, since a line
-- feed is added to it. So it fits as long as the files before have at most 4,294,967,287 bytes.
abbrev pub FilesAreBounded : Type 0
FilesAreBounded =
    (count : ℕ)
    → (HasTooMany (spaces count) (codes "$c e $.") ↔ 4294967287 < count)
    × (IsEditOf (Insert (codes "a.mm") 0 (codes "$c e $.")) (spaces count)
    (record { name = codes "a.mm"; pieces = codes "$c e $.\n" ∷ []; tail = replicate count 32 } ∷ []) ↔ count ≤ 4294967287)
    × (IsEditError (Insert (codes "a.mm") 0 (codes "$c e $.")) (spaces count) TooMany ↔ 4294967287 < count)

-- Three pieces under the keys 3, 5 and 7. The file has those of 7 and 3, in this order; the one of 5 is parked.
abbrev pub parking : FilesView
parking = record {
  keyed = record { name = codes "b.mm"; keys = 7 ∷ 3 ∷ []; tail = codes "\n" } ∷ [];
  pieces =
      finite.from_sorted
      ((3, record { text = declaring 97; state = Standing })
      ∷ (5, record { text = declaring 98; state = Parked 0 Replaced })
      ∷ (7, record { text = declaring 99; state = Standing }) ∷ []);
}

-- The files without keys have the texts of the keys of a file in their order, and nothing of parked pieces. These have a text too. A
-- key without a piece counts as one with no bytes.
abbrev pub KeysAreTexts : Type 0
KeysAreTexts =
    (plain parking ≡ record { name = codes "b.mm"; pieces = map declaring (codes "ca"); tail = codes "\n" } ∷ [])
    × (text_under parking.pieces 5 ≡ codes "$c b $.\n") × (text_under parking.pieces 4 ≡ [])
    × (parked_in parking ≡ 1) × (plain no_files ≡ []) × (parked_in no_files ≡ 0)
    × HoldsPieces parking × (¬ HoldsPieces (record { keyed = parking.keyed; pieces = finite.empty }))
    × KeepsPieces no_files parking × (¬ KeepsPieces parking no_files)
