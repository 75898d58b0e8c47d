-- Two files that include each other, and their items, where they stand.
use Rattle.std.specs.Prelude.{◌≡◌, ℕ, Option, Some, None, List, [], ◌∷◌, codes}
use Rattle.std.specs.List.{AllByRecursion}
use Rattle.mm_store.specs.mm_text.declared.word.Keyword.{Keyword}
use Rattle.mm_store.specs.mm_text.declared.word.Keyword.TheVariants as keywords
use Rattle.mm_store.specs.mm_text.declared.word.WordKind.TheVariants as words
use Rattle.mm_store.specs.mm_text.Language.Cut.{IsCut}
use Rattle.mm_store.specs.mm_text.Language.Spelling.{spelling}
use Rattle.mm_store.specs.mm_text.Language.Unit.{Token}
use Rattle.mm_store.specs.Language.FilesView.{File, text_of}
use Rattle.mm_statement.specs.Language.Item.{Kind, Constants, Variables, Floating, Essential, Axiom, Theorem, BlockStart, BlockEnd, Missing}
use Rattle.mm_statement.specs.Language.Database.{Located, IsDatabase}

-- a plain word, from this byte of its piece on
abbrev pub plain_at : ℕ → List ℕ → Token
plain_at start bytes = record { kind = words.Plain; bytes = bytes; start = start }

-- a keyword, from this byte of its piece on
abbrev pub keyword_at : ℕ → Keyword → Token
keyword_at start keyword = record { kind = words.Keyword keyword; bytes = spelling keyword; start = start }

-- an item of this file and this piece, with these words, that says this
abbrev pub stands : ℕ → ℕ → List Token → Kind → Option (List ℕ) → List (List ℕ) → List (List ℕ) → Located
stands file piece words kind label symbols proof =
    record { file = file; piece = piece; words = words; said = record { kind = kind; label = label; symbols = symbols; proof = proof } }

-- The first file has six pieces and includes the second. This includes the first, so that the inclusions are a ring, and one that is
-- missing.
abbrev pub looped : List File
looped =
    record {
      name = codes "top.mm";
      pieces =
          codes "$[ sub.mm $]\n" ∷ codes "$c wff $.\n" ∷ codes "$v p $.\n" ∷ codes "wp $f wff p $.\n" ∷ codes "${ e $e wff p $. a $a wff p $. $}\n"
          ∷ codes "t $p wff p $= wp wp a $.\n" ∷ [];
      tail = [];
    }
    ∷ record { name = codes "sub.mm"; pieces = codes "$[ top.mm $]\n" ∷ codes "$[ no.mm $]\n" ∷ []; tail = [] }
    ∷ []

-- the symbols `wff p`
abbrev pub wff_p : List (List ℕ)
wff_p = codes "wff" ∷ codes "p" ∷ []

-- The first item is the reference of the second file to the missing one; its inclusion of the first file gives nothing. The items of
-- the first file follow: the block of its piece 4 is four of them.
abbrev pub looped_items : List Located
looped_items =
    stands 1 1 (keyword_at 0 keywords.InclusionStart ∷ plain_at 3 (codes "no.mm") ∷ keyword_at 9 keywords.InclusionEnd ∷ [])
    Missing None (codes "no.mm" ∷ []) []
    ∷ stands 0 1 (keyword_at 0 keywords.Constants ∷ plain_at 3 (codes "wff") ∷ keyword_at 7 keywords.StatementEnd ∷ [])
    Constants None (codes "wff" ∷ []) []
    ∷ stands 0 2 (keyword_at 0 keywords.Variables ∷ plain_at 3 (codes "p") ∷ keyword_at 5 keywords.StatementEnd ∷ [])
    Variables None (codes "p" ∷ []) []
    ∷ stands 0 3 (plain_at 0 (codes "wp") ∷ keyword_at 3 keywords.Floating ∷ plain_at 6 (codes "wff") ∷ plain_at 10 (codes "p")
    ∷ keyword_at 12 keywords.StatementEnd ∷ [])
    Floating (Some (codes "wp")) wff_p []
    ∷ stands 0 4 (keyword_at 0 keywords.BlockStart ∷ []) BlockStart None [] []
    ∷ stands 0 4 (plain_at 3 (codes "e") ∷ keyword_at 5 keywords.Essential ∷ plain_at 8 (codes "wff") ∷ plain_at 12 (codes "p")
    ∷ keyword_at 14 keywords.StatementEnd ∷ [])
    Essential (Some (codes "e")) wff_p []
    ∷ stands 0 4 (plain_at 17 (codes "a") ∷ keyword_at 19 keywords.Axiom ∷ plain_at 22 (codes "wff") ∷ plain_at 26 (codes "p")
    ∷ keyword_at 28 keywords.StatementEnd ∷ [])
    Axiom (Some (codes "a")) wff_p []
    ∷ stands 0 4 (keyword_at 31 keywords.BlockEnd ∷ []) BlockEnd None [] []
    ∷ stands 0 5 (plain_at 0 (codes "t") ∷ keyword_at 2 keywords.Theorem ∷ plain_at 5 (codes "wff") ∷ plain_at 9 (codes "p")
    ∷ keyword_at 11 keywords.ProofStart ∷ plain_at 14 (codes "wp") ∷ plain_at 17 (codes "wp") ∷ plain_at 20 (codes "a")
    ∷ keyword_at 22 keywords.StatementEnd ∷ [])
    Theorem (Some (codes "t")) wff_p (codes "wp" ∷ codes "wp" ∷ codes "a" ∷ [])
    ∷ []

-- the names to which the files refer, in the order of the first references, after that of the first file
abbrev pub looped_names : List (List ℕ)
looped_names = codes "top.mm" ∷ codes "sub.mm" ∷ codes "no.mm" ∷ []

-- Read from `top.mm` on, the two files give nine items and three names.
abbrev pub LoopGivesNine : Type 0
LoopGivesNine = (database : IsDatabase looped (codes "top.mm") looped_items) × (database.after ≡ looped_names)

-- The pieces of each of the two files are the cut of its text.
abbrev pub LoopIsCut : Type 0
LoopIsCut = AllByRecursion (λ file. IsCut (text_of file) file.pieces file.tail) looped
