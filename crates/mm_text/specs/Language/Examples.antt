-- Some texts, and what they mean.
use Rattle.std.specs.Prelude.{◌≡◌, ℕ, ◌+◌, true, false, Some, None, [], ◌∷◌, ◌++◌, map, codes}
use Rattle.mm_text.specs.declared.fault.TextNumber.TheVariants.{T01, T02, T03, T04, T05, T06, T07, T08, T09, T10, T11, T12}
use Rattle.mm_text.specs.declared.word.Keyword.{Keyword}
use Rattle.mm_text.specs.declared.word.Keyword.TheVariants.{Floating, StatementEnd}
use Rattle.mm_text.specs.declared.word.Word.{Word}
use Rattle.mm_text.specs.declared.word.WordKind.TheVariants as kinds
use Rattle.mm_text.specs.Language.Asked.{Insert, Replace, Delete, Move, edited_name, edited_text, IsAmong}
use Rattle.mm_text.specs.Language.Cut.{HoldsOneUnit, IsCut, IsFirstFault, IsFirstFaultAt}
use Rattle.mm_text.specs.Language.Place.{line_at, column_at}
use Rattle.mm_text.specs.Language.Reading.{HasWords, is_allowed}
use Rattle.mm_text.specs.Language.Run.{is_white}
use Rattle.mm_text.specs.Language.Unit.{is_label_byte}

-- a plain word, from this byte to before that one
abbrev pub plain_word : ℕ → ℕ → Word
plain_word start end = record { kind = kinds.Plain; start = start; end = end }

-- a keyword, which has two bytes, from this one on
abbrev pub keyword : Keyword → ℕ → Word
keyword kind start = record { kind = kinds.Keyword kind; start = start; end = start + 2 }

-- A comment, and after it a statement of five words. The comment gives none. The label `wp` is the bytes 13 and 14, and so on.
abbrev pub HasFiveWords : Type 0
HasFiveWords = HasWords (codes "$( a type $)\nwp $f wff p $.\n")
    (plain_word 13 15 ∷ keyword Floating 16 ∷ plain_word 19 22 ∷ plain_word 23 24 ∷ keyword StatementEnd 25 ∷ [])

-- The symbol `wff` of this text, whose first byte is number 19, is in line 2, at column 7.
abbrev pub StandsInSecondLine : Type 0
StandsInSecondLine = (line_at (codes "$( a type $)\nwp $f wff p $.\n") 19 ≡ 2) × (column_at (codes "$( a type $)\nwp $f wff p $.\n") 19 ≡ 7)

-- A `$c` among the symbols of another `$c`, whose `$.` is missing: the first fault of the text is T06, at byte 5, where the second `$c`
-- begins.
abbrev pub MissesEnd : Type 0
MissesEnd = IsFirstFault (codes "$c a $c b $.") (record { number = T06; at = 5 })

-- A text for each other number of a fault, and the byte at which the fault is. In the first, a `$)` comes before the bad byte, which counts
-- nevertheless. In `block_open`, the inner block is closed, and the outer one is not.
pub record HaveTheirFaults : Type 0 where
  pub bad_byte : IsFirstFaultAt (codes "$) " ++ 127 ∷ []) T01 3
  pub comment_open : IsFirstFaultAt (codes "$c a $. $( b") T02 8
  pub mark_in_comment : IsFirstFaultAt (codes "$( a $( b $)") T03 5
  pub mark_outside : IsFirstFaultAt (codes "$c a $) $.") T04 5
  pub dollar_inside : IsFirstFaultAt (codes "$c a$b $.") T05 3
  pub unit_open : IsFirstFaultAt (codes "$c a $. $c b") T07 8
  pub block_open : IsFirstFaultAt (codes "${ ${ $c a $. $}") T08 0
  pub no_block_open : IsFirstFaultAt (codes "$c a $. $}") T09 8
  pub inclusion_inside : IsFirstFaultAt (codes "${ $[ a.mm $] $}") T10 3
  pub no_label : IsFirstFaultAt (codes "$c a $. a+b $a a $.") T11 8
  pub keyword_as_name : IsFirstFaultAt (codes "$[ $c $]") T12 3

-- Some bytes: which of them are white space, which a text may hold, and which a label may have.
pub record SortBytes : Type 0 where
  pub white : map is_white (8 ∷ 9 ∷ 10 ∷ 11 ∷ 12 ∷ 13 ∷ 14 ∷ 32 ∷ []) ≡ false ∷ true ∷ true ∷ false ∷ true ∷ true ∷ false ∷ true ∷ []
  pub allowed : map is_allowed (8 ∷ 9 ∷ 31 ∷ 32 ∷ 33 ∷ 126 ∷ 127 ∷ []) ≡ false ∷ true ∷ false ∷ true ∷ true ∷ true ∷ false ∷ []
  pub digits : map is_label_byte (codes "/09:") ≡ false ∷ true ∷ true ∷ false ∷ []
  pub letters : map is_label_byte (codes "@AZ[`az{") ≡ false ∷ true ∷ true ∷ false ∷ false ∷ true ∷ true ∷ false ∷ []
  pub others : map is_label_byte (codes "-._+") ≡ true ∷ true ∷ true ∷ false ∷ []

-- A file of three members has those with the numbers 0 to 2. An insertion may name the place after the last one, which is number 3.
pub record HasThreeMembers : Type 0 where
  pub last : IsAmong (Delete (codes "a.mm") 2) 3 × IsAmong (Replace (codes "a.mm") 2 (codes "$c a $.")) 3
  pub behind : ¬ IsAmong (Delete (codes "a.mm") 3) 3 × ¬ IsAmong (Replace (codes "a.mm") 3 (codes "$c a $.")) 3
  pub inserted : IsAmong (Insert (codes "a.mm") 3 (codes "$c a $.")) 3 × ¬ IsAmong (Insert (codes "a.mm") 4 (codes "$c a $.")) 3
  pub moved : IsAmong (Move (codes "a.mm") 0 2) 3 × ¬ IsAmong (Move (codes "a.mm") 0 3) 3 × ¬ IsAmong (Move (codes "a.mm") 3 0) 3

-- A replacement names its file, and brings its text. A move names its file, and brings no text.
pub record NameAndBring : Type 0 where
  pub replaced : edited_name (Replace (codes "a.mm") 0 (codes "$c a $.")) ≡ codes "a.mm"
  pub text : edited_text (Replace (codes "a.mm") 0 (codes "$c a $.")) ≡ Some (codes "$c a $.")
  pub moved : edited_name (Move (codes "a.mm") 0 2) ≡ codes "a.mm"
  pub none : edited_text (Move (codes "a.mm") 0 2) ≡ None

-- A text of two statements and three comments is cut into two pieces and a tail. The comment before a statement belongs to its piece,
-- and so does the white space after it. The last comment is the tail, to which a line feed is added.
abbrev pub IsCutInTwo : Type 0
IsCutInTwo = IsCut (codes "$c $( the type $) wff $. $( typed $)\nwp $f wff p $.\n$( end $)")
    (codes "$c $( the type $) wff $. " ∷ codes "$( typed $)\nwp $f wff p $.\n" ∷ []) (codes "$( end $)\n")

-- A text without bytes is cut into no pieces and a tail without bytes.
abbrev pub CutsNothing : Type 0
CutsNothing = IsCut [] [] []

-- Texts that hold one unit: an inclusion, and a block of a `$v`, a `$d`, a `$e` and a `$p`.
pub record HoldOneUnitEach : Type 0 where
  pub inclusion : HoldsOneUnit (codes "$[ a.mm $]\n")
  pub block : HoldsOneUnit (codes "${ $v x y $. $d x y $. e $e w $. p $p w $= e $. $}\n")
