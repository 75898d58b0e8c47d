-- What is proved of decoding: each is the contract of a function.
use Rattle.std.specs.Prelude.{◌≡◌, ℕ, ◌<◌, ◌≤◌, ◌↔◌, true, false, Result, Ok, Err, List, [], ◌∷◌, ◌++◌, length, flat_map, codes}
use Rattle.std.specs.List.{AllByRecursion, list_any}
use Rattle.mm_frame.specs.Language.Base.{BaseView, AreLabelled, before, said_at}
use Rattle.mm_frame.specs.Language.Framing.{mandatory_numbers}
use Rattle.mm_verdict.specs.Language.BaseLabels.{NoLabelTwice, AreActive}
use Rattle.mm_machine.specs.Language.Frame.{Symbol, Setting}
use Rattle.mm_machine.specs.Language.Expansion.{Step}
use Rattle.mm_machine.specs.Language.Machine.{IsUsable, AreDecoded}
use Rattle.mm_verdict.specs.Language.Numbers.{is_digit, is_last, value_of}
use Rattle.mm_verdict.specs.Language.Letters.{Letter, Group, groups, IsDivided}
use Rattle.mm_verdict.specs.Language.Decoding.{ProofReading, in_order, is_close, decoding}
use Rattle.mm_verdict.specs.Language.Citing.{cites}
use Rattle.mm_verdict.specs.Language.SameToDecode.{AreSameToDecode}
use Rattle.mm_machine.specs.Language.SameProof.{IsSameDecoding}
use Rattle.mm_machine.specs.Language.Renaming.{IsRenamedSetting}
use Rattle.mm_machine.specs.Language.Verdict.{Decoded}
use Rattle.mm_machine.specs.declared.ProofNumber.{ProofNumber}
use Rattle.mm_machine.specs.declared.step.ProofFault.{ProofFault}

-- digits, and a last letter
abbrev pub IsWrittenNumber : List ℕ → ℕ → Type 0
IsWrittenNumber digits last = AllByRecursion (λ d. is_digit d ≡ true) digits × (is_last last ≡ true)

-- The table of numbers: `A`, `T`, `UA`, `UT`, `VA`, `YT`, `UUA`, `YYT`, `UUUA`.
abbrev pub HasNumberTable : Type 0
HasNumberTable =
    (value_of [] 65 ≡ 1) × (value_of [] 84 ≡ 20) ×
    (value_of (codes "U") 65 ≡ 21) × (value_of (codes "U") 84 ≡ 40) ×
    (value_of (codes "V") 65 ≡ 41) × (value_of (codes "Y") 84 ≡ 120) ×
    (value_of (codes "UU") 65 ≡ 121) × (value_of (codes "YY") 84 ≡ 620) × (value_of (codes "UUU") 65 ≡ 621)

-- Two numbers that are written differently are different.
abbrev pub NumbersAreApart : Type 0
NumbersAreApart = (ds es : List ℕ) (a b : ℕ) → IsWrittenNumber ds a → IsWrittenNumber es b → value_of ds a ≡ value_of es b → (ds ≡ es) × (a ≡ b)

-- Each number from 1 on can be written.
abbrev pub EachIsWritten : Type 0
EachIsWritten = (n : ℕ) → 1 ≤ n → (ds : List ℕ) × (a : ℕ) × IsWrittenNumber ds a × (value_of ds a ≡ n)

-- Letters are divided in one way: into digits with a letter after them that is none, and digits at the end.
abbrev pub HasOneDivision : Type 0
HasOneDivision = (letters : List Letter) (parts : List Group) → IsDivided letters parts ↔ (groups letters ≡ parts)

-- a step is read, and no fault
abbrev pub ReadsStep : ProofReading → Type 0
ReadsStep reading = (step : Step) × (reading.step ≡ Ok step)

-- of what is read at one spot after another, this is the first fault: at each spot before it a step is read
pub record IsFirstDecodingFault (readings : List ProofReading) (fault : ProofFault) : Type 0 where
  pub front : List ProofReading
  pub back : List ProofReading
  pub whole : readings ≡ front ++ record { spot = fault.spot; step = Err fault.number } ∷ back
  pub before : AllByRecursion ReadsStep front

-- The fault that is reported is the first in reading order.
abbrev pub TellsFirstFault : Type 0
TellsFirstFault = (readings : List ProofReading) (fault : ProofFault) → (in_order readings ≡ Err fault) ↔ IsFirstDecodingFault readings fault

-- the steps, or the number of the fault, without spots
abbrev pub without_spots : Result Decoded ProofFault → Result (List Step) ProofNumber
without_spots (Ok d) = Ok d.steps
without_spots (Err fault) = Err fault.number

-- the words of a compressed proof with these listed labels and these words of letters
abbrev pub compressed_words : List (List ℕ) → List (List ℕ) → List (List ℕ)
compressed_words listed letters = codes "(" ∷ (listed ++ codes ")" ∷ letters)

-- Letters read on over the ends of words: only the letters in a row count.
abbrev pub LettersReadOn : Type 0
LettersReadOn =
    (place : Setting) (mandatory listed some others : List (List ℕ)) →
    list_any is_close listed ≡ false → flat_map (λ word. word) some ≡ flat_map (λ word. word) others →
    without_spots (decoding place mandatory (compressed_words listed some)) ≡ without_spots (decoding place mandatory (compressed_words listed others))

-- Decoding makes sure that each label can be used and each saved number is of one of the saves before it; there is a spot for each step.
abbrev pub DecodesSurely : Type 0
DecodesSurely =
    (place : Setting) (mandatory words : List (List ℕ)) (d : Decoded) →
    AllByRecursion (λ label. IsUsable (place.resolve label)) mandatory → decoding place mandatory words ≡ Ok d →
    AreDecoded place d.steps × (length d.spots ≡ length d.steps)

-- Proofs with the same words decode to the same if their labels mean the same, even if mandatory hypotheses have other labels.
abbrev pub SameDecodesSame : Type 0
SameDecodesSame =
    (place other : Setting) (mandatory others words : List (List ℕ)) → AreSameToDecode place other mandatory others words →
    IsSameDecoding place other (decoding place mandatory words) (decoding other others words)

-- Proofs with the same words cite by the same words if their labels mean the same.
abbrev pub SameCitesSame : Type 0
SameCitesSame =
    (place other : Setting) (mandatory others words : List (List ℕ)) → AreSameToDecode place other mandatory others words →
    cites place words (decoding place mandatory words) ≡ cites other words (decoding other others words)

-- A renaming of symbols keeps what words decode to, and which of them cite.
abbrev pub RenamingKeepsDecoding : Type 0
RenamingKeepsDecoding =
    (to : Symbol → Symbol) (place other : Setting) → IsRenamedSetting to place other → (mandatory words : List (List ℕ)) →
    (decoding place mandatory words ≡ decoding other mandatory words) ×
    ((d : Result Decoded ProofFault) → cites place words d ≡ cites other words d)

-- each number is below those after it
abbrev pub Rise : List ℕ → Type 0
Rise [] = Unit {0}
Rise (n ∷ numbers) = AllByRecursion (λ m. n < m) numbers × Rise numbers

-- The numbers of the words that cite rise.
abbrev pub CitesRise : Type 0
CitesRise = (place : Setting) (words : List (List ℕ)) (decoding : Result Decoded ProofFault) → Rise (cites place words decoding)

-- If no word is empty, there are at most as many steps as the words have bytes.
abbrev pub DecodesShort : Type 0
DecodesShort =
    (place : Setting) (mandatory words : List (List ℕ)) (d : Decoded) →
    AllByRecursion (λ word. 0 < length word) words → decoding place mandatory words ≡ Ok d →
    length d.steps ≤ length (flat_map (λ word. word) words)

-- No two sound items have the same label.
abbrev pub LabelsAreOwn : Type 0
LabelsAreOwn = (view : BaseView) → AreLabelled view → NoLabelTwice view

-- The mandatory hypotheses of an item are active there.
abbrev pub MandatoryAreActive : Type 0
MandatoryAreActive = (view : BaseView) (i : ℕ) → AreLabelled view → AreActive view i (mandatory_numbers (before view i) (said_at view i))
