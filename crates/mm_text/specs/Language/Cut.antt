-- The cut of a text into pieces, each with one unit, and a tail with none; or the first fault of the text.
use Rattle.std.specs.Prelude.{◌≡◌, ℕ, ◌+◌, Bool, true, false, if◌then◌else◌, Some, None, List, [], ◌∷◌, ◌++◌, ◌⊎◌, length, drop, slice_get}
use Rattle.std.specs.List.{AllPass, concat}
use Rattle.mm_text.specs.declared.word.Word.{Word}
use Rattle.mm_text.specs.declared.fault.TextFault.{TextFault}
use Rattle.mm_text.specs.declared.fault.TextError.{TextError}
use Rattle.mm_text.specs.declared.fault.TextError.TheVariants as errors
use Rattle.mm_text.specs.declared.fault.TextNumber.{TextNumber}
use Rattle.mm_text.specs.declared.fault.TextNumber.TheVariants.{T01, T02, T03, T04, T05, T06, T07, T08, T09, T10, T11, T12}
use Rattle.mm_text.specs.Language.Run.{Run, runs, is_white}
use Rattle.mm_text.specs.Language.Reading as words
use Rattle.mm_text.specs.Language.Reading.{first_bad, HasWords, AreWords, EndsInComment}
use Rattle.mm_text.specs.Language.Unit as units
use Rattle.mm_text.specs.Language.Unit.{Token, Units, Nothing, Simple, Block, AreUnits, unit_tokens, tokens_of, IsViable, EndsInUnit, EndsInBlock}

-- whether the bytes end in white space; no bytes count as if they did
abbrev pub ends_white : List ℕ → Bool
ends_white [] = true
ends_white (b ∷ []) = is_white b
ends_white (b ∷ bytes) = ends_white bytes

-- the text that is cut: if a text does not end in white space, a line feed is added
abbrev pub ended : List ℕ → List ℕ
ended text = if ends_white text then text else text ++ 10 ∷ []

-- the sequence is one unit, and no more
abbrev pub IsOneUnit : Units → Type 0
IsOneUnit Nothing = ⊥
IsOneUnit (Simple shape later) = later ≡ Nothing
IsOneUnit (Block begin inner end later) = later ≡ Nothing

-- the byte after the last of these words; 0 if there are none
abbrev pub end_of_words : List Word → ℕ
end_of_words [] = 0
end_of_words (word ∷ []) = word.end
end_of_words (word ∷ words) = end_of_words words

-- the words of the text are one unit, and the text ends in white space
pub record HoldsOneUnit (text : List ℕ) : Type 0 where
  pub words : List Word
  pub units : Units
  pub has_words : HasWords text words
  pub are_units : AreUnits true units
  pub spells : unit_tokens units ≡ tokens_of text words
  pub one : IsOneUnit units
  pub ends : ends_white text ≡ true

-- a piece: it holds one unit, and only white space follows the last word
pub record IsPiece (piece : List ℕ) : Type 0 where
  pub unit : HoldsOneUnit piece
  pub white : AllPass is_white (drop (end_of_words unit.words) piece)

-- the bytes do not begin with white space; there may be none
abbrev pub BeginsSolid : List ℕ → Type 0
BeginsSolid [] = Unit {0}
BeginsSolid (b ∷ bytes) = is_white b ≡ false

-- pieces, and after them a tail without a word. All white space after a unit belongs to its piece, so what comes next begins with none
abbrev pub ArePieces : List (List ℕ) → List ℕ → Type 0
ArePieces [] tail = HasWords tail []
ArePieces (piece ∷ pieces) tail = IsPiece piece × BeginsSolid (concat pieces ++ tail) × ArePieces pieces tail

-- the cut of a text: its pieces and its tail joined are the text, with a line feed added if it does not end in white space
pub record IsCut (text : List ℕ) (pieces : List (List ℕ)) (tail : List ℕ) : Type 0 where
  pub joined : concat pieces ++ tail ≡ ended text
  pub are_pieces : ArePieces pieces tail

-- the run at this byte is the first with which no reading of words goes on; the number says why; the runs before it are read as words, or as
-- words and a comment that is still open; these words may still become whole units
pub record StopsWords (text : List ℕ) (number : TextNumber) (at : ℕ) : Type 0 where
  pub stop : words.StopsAtRun (runs text) number at
  pub found : List Word
  pub read : AreWords stop.front found ⊎ EndsInComment stop.front found
  pub viable : IsViable (tokens_of text found)

-- the text ends inside a comment that begins at this byte; the words before it may still become whole units
pub record EndsWords (text : List ℕ) (at : ℕ) : Type 0 where
  pub found : List Word
  pub read : EndsInComment (runs text) found
  pub place : at ≡ read.first.start
  pub viable : IsViable (tokens_of text found)

-- the word at this byte is the first with which the words can no longer become whole units; the number says why; up to it the
-- runs are read without a fault
pub record StopsUnits (text : List ℕ) (number : TextNumber) (at : ℕ) : Type 0 where
  pub front : List Run
  pub rest : List Run
  pub joined : runs text ≡ front ++ rest
  pub found : List Word
  pub read : AreWords front found
  pub word : ℕ
  pub last : length found ≡ word + 1
  pub stop : units.StopsAtWord (tokens_of text found) number word
  pub place : at ≡ stop.token.start

-- the words of the text end inside a unit, or inside a block, as `Ends` says, that begins with the word at this byte
pub record EndsUnits (text : List ℕ) (Ends : List Token → ℕ → Type 0) (at : ℕ) : Type 0 where
  pub found : List Word
  pub has_words : HasWords text found
  pub word : ℕ
  pub token : Token
  pub ends : Ends (tokens_of text found) word
  pub there : slice_get (tokens_of text found) word ≡ Some token
  pub place : at ≡ token.start

-- the first fault of the text has this number and this byte. A byte that no text may hold comes before all other faults; of the
-- others the first in the order of reading counts. What is unfinished is found at the end of the text
abbrev pub IsFirstFaultAt : List ℕ → TextNumber → ℕ → Type 0
IsFirstFaultAt text T01 at = first_bad text ≡ Some at
IsFirstFaultAt text T02 at = (first_bad text ≡ None) × EndsWords text at
IsFirstFaultAt text T03 at = (first_bad text ≡ None) × StopsWords text T03 at
IsFirstFaultAt text T04 at = (first_bad text ≡ None) × StopsWords text T04 at
IsFirstFaultAt text T05 at = (first_bad text ≡ None) × StopsWords text T05 at
IsFirstFaultAt text T06 at = (first_bad text ≡ None) × StopsUnits text T06 at
IsFirstFaultAt text T07 at = EndsUnits text EndsInUnit at
IsFirstFaultAt text T08 at = EndsUnits text EndsInBlock at
IsFirstFaultAt text T09 at = (first_bad text ≡ None) × StopsUnits text T09 at
IsFirstFaultAt text T10 at = (first_bad text ≡ None) × StopsUnits text T10 at
IsFirstFaultAt text T11 at = (first_bad text ≡ None) × StopsUnits text T11 at
IsFirstFaultAt text T12 at = (first_bad text ≡ None) × StopsUnits text T12 at

-- the text has this first fault, of words or of units: T01 to T12
abbrev pub IsFirstFault : List ℕ → TextFault → Type 0
IsFirstFault text fault = IsFirstFaultAt text fault.number fault.at

-- an error is the first fault of the text, or memory
abbrev pub IsCutError : List ℕ → TextError → Type 0
IsCutError text (errors.Fault fault) = IsFirstFault text fault
IsCutError text errors.Memory = Unit {0}
