-- The letters read from left to right, with a number for the digits so far. No public contract speaks of it: it is
-- between the code and the definition, with which it is proved to agree.
use Rattle.std.specs.Prelude.{ℕ, ◌+◌, ◌-◌, ◌*◌, ◌==◌, if◌then◌else◌, Result, Ok, Err, List, [], ◌∷◌, ◌++◌, slice_get}
use Rattle.std.specs.Option.{ok_or}
use Rattle.mm_machine.specs.declared.ProofNumber.TheVariants.{P06}
use Rattle.mm_machine.specs.Language.Frame.{Setting}
use Rattle.mm_machine.specs.Language.Expansion.{Step, Save, NotKnown}
use Rattle.mm_verdict.specs.Language.Numbers.{is_digit, is_last, digit_worth, last_worth}
use Rattle.mm_verdict.specs.Language.Letters.{Letter}
use Rattle.mm_verdict.specs.Language.Decoding.{Steps, read_first, nameable, read_label, is_close, letter_steps, word_spot}
use Rattle.mm_machine.specs.declared.Spot.{Spot}
use Rattle.mm_machine.specs.declared.ProofNumber.{ProofNumber}
use Rattle.mm_machine.specs.declared.ProofNumber.TheVariants.{P03, P04, P05}

-- a letter that takes no digits: their number is 0 if there are none
abbrev pub alone_behind : ℕ → Step → Result Step ProofNumber
alone_behind digits step = if digits == 0 then Ok step else Err P05

-- a letter that is no digit, after digits with this number
abbrev pub read_behind : List Step → ℕ → ℕ → Result Step ProofNumber
read_behind names digits byte =
    if is_last byte then ok_or (slice_get names (20 * digits + last_worth byte - 1)) P06
    else if byte == 90 then alone_behind digits Save
    else if byte == 63 then alone_behind digits NotKnown
    else Err P04

-- the end, after digits with this number
abbrev pub end_behind : Spot → ℕ → Steps
end_behind close digits = if digits == 0 then Ok [] else Err (record { number = P05; spot = close })

-- letters after some saves and after digits with this number
abbrev pub read_on : List Step → Spot → ℕ → ℕ → List Letter → Steps
read_on labels close saves digits [] = end_behind close digits
read_on labels close saves digits (letter ∷ letters) =
    if is_digit letter.byte then read_on labels close saves (5 * digits + digit_worth letter.byte) letters
    else
    read_first letter.spot (read_behind (nameable labels saves) digits letter.byte)
    (read_on labels close (if letter.byte == 90 then saves + 1 else saves) 0 letters)

-- steps that were read before
abbrev pub with_steps : List (Step × Spot) → Steps → Steps
with_steps done (Ok more) = Ok (done ++ more)
with_steps done (Err fault) = Err fault

-- a label of the list, and what comes after it
abbrev pub behind_label : ℕ → Result Step ProofNumber → Steps → Steps
behind_label n (Ok step) behind = behind
behind_label n (Err number) behind = Err (record { number = number; spot = word_spot n })

-- the words from word n on, after labels that were listed
abbrev pub list_on : Setting → List (List ℕ) → Spot → List (List ℕ) → ℕ → List (List ℕ) → Steps
list_on place mandatory close listed n [] = Err (record { number = P03; spot = close })
list_on place mandatory close listed n (word ∷ words) =
    if is_close word then letter_steps mandatory listed (n + 1) words close
    else behind_label n (read_label place word) (list_on place mandatory close (listed ++ word ∷ []) (n + 1) words)
