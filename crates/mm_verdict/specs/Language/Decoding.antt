-- Decoding: the steps that the words of a proof stand for, or the first fault in reading order (Metamath book, section 4.1.4 and Appendix B).
use Rattle.std.specs.Prelude.{ℕ, ◌+◌, ◌-◌, ◌==◌, Bool, false, if◌then◌else◌, Result, Ok, Err}
use Rattle.std.specs.Prelude.{List, [], ◌∷◌, ◌++◌, length, map, drop, slice_get, bytes_eq, codes}
use Rattle.std.specs.Option.{ok_or, option_map_or}
use Rattle.std.specs.Result.{result_and, result_map_both}
use Rattle.std.specs.List.{list_any, enumerate_from, range_with_len, before_first, after_first}
use Rattle.mm_machine.specs.Language.Frame.{LabelMeaning, Hypothesis, Assertion, Inactive, Unknown, Setting}
use Rattle.mm_machine.specs.Language.Expansion.{Step, Named, Saved, Save, NotKnown}
use Rattle.mm_verdict.specs.Language.Numbers.{is_last, value_of}
use Rattle.mm_verdict.specs.Language.Letters.{Letter, letters_from, Group, groups}
use Rattle.mm_machine.specs.Language.Verdict.{Decoded}
use Rattle.mm_machine.specs.declared.Spot.{Spot}
use Rattle.mm_machine.specs.declared.ProofNumber.{ProofNumber}
use Rattle.mm_machine.specs.declared.ProofNumber.TheVariants.{P01, P02, P03, P04, P05, P06}
use Rattle.mm_machine.specs.declared.step.ProofFault.{ProofFault}

-- What is read at a spot of a proof: a step, or the number of a fault.
pub record ProofReading : Type 0 where
  pub spot : Spot
  pub step : Result Step ProofNumber

-- the steps of a proof, each with its spot; or its first fault
abbrev pub Steps : Type 0
Steps = Result (List (Step × Spot)) ProofFault

-- what is read first, and then the rest: a step goes in front of the steps of the rest, and a fault ends it
abbrev pub read_first : Spot → Result Step ProofNumber → Steps → Steps
read_first spot (Ok step) rest = result_map_both (λ steps. (step, spot) ∷ steps) (λ fault. fault) rest
read_first spot (Err number) rest = Err (record { number = number; spot = spot })

-- what is read at one spot after another: all steps, or the first fault
-- In words: `tells_first_fault`: The fault is the first one in reading order: a step is read at each spot before it.
abbrev pub in_order : List ProofReading → Steps
in_order [] = Ok []
in_order (reading ∷ readings) = read_first reading.spot reading.step (in_order readings)

-- the spot of a word, at its first letter
abbrev pub word_spot : ℕ → Spot
word_spot n = record { word = n; letter = 0 }

-- a label as a step: of an active hypothesis or of an assertion; P02 if its hypothesis is no longer active, P01 if there is no such label
abbrev pub usable : List ℕ → LabelMeaning → Result Step ProofNumber
usable label (Hypothesis e) = Ok (Named label)
usable label (Assertion frame) = Ok (Named label)
usable label Inactive = Err P02
usable label Unknown = Err P01

-- a label as a step, by what it means at this place
abbrev pub read_label : Setting → List ℕ → Result Step ProofNumber
read_label place label = usable label (place.resolve label)

-- a word of a normal proof: a label, or `?`
abbrev pub read_word : Setting → List ℕ → Result Step ProofNumber
read_word place word = if bytes_eq word (codes "?") then Ok NotKnown else read_label place word

-- words, of which the first has number n, each read by itself
abbrev pub readings_of_words : (List ℕ → Result Step ProofNumber) → ℕ → List (List ℕ) → List ProofReading
readings_of_words read n words = map (λ word. record { spot = word_spot word.0; step = read word.1 }) (enumerate_from n words)

-- what the numbers from 1 on name: the mandatory hypotheses and the listed labels, and then the steps saved so far
abbrev pub nameable : List Step → ℕ → List Step
nameable labels saves = labels ++ map Saved (range_with_len 0 saves)

-- a letter that takes no digits, `Z` or `?`: its step, or P05 if digits come before it
abbrev pub without_digits : List Letter → Step → Result Step ProofNumber
without_digits [] step = Ok step
without_digits (digit ∷ digits) step = Err P05

-- what digits and the letter after them say: a number, which is P06 if it names none of the names; `Z`; `?`; or P04 if it is no such letter.
-- Number 1 names the first of the names
abbrev pub read_letter : List Step → List Letter → ℕ → Result Step ProofNumber
read_letter names digits byte =
    if is_last byte then ok_or (slice_get names (value_of (map (λ digit. digit.byte) digits) byte - 1)) P06
    else if byte == 90 then without_digits digits Save
    else if byte == 63 then without_digits digits NotKnown
    else Err P04

-- groups of letters, each read with this many steps saved before it, at the letter after its digits; a `Z` saves one more. Digits with no letter
-- after them have P05, at the end of the proof
abbrev pub readings_of_groups : List Step → Spot → ℕ → List Group → List ProofReading
readings_of_groups labels close saves [] = []
readings_of_groups labels close saves (group ∷ groups) =
    record {
      spot = option_map_or (λ letter. letter.spot) group.last close;
      step = option_map_or (λ letter. read_letter (nameable labels saves) group.digits letter.byte) group.last (Err P05);
    }
    ∷ readings_of_groups labels close (if option_map_or (λ letter. letter.byte == 90) group.last false then saves + 1 else saves) groups

-- the word is a `)`, which ends the list of labels
abbrev pub is_close : List ℕ → Bool
is_close word = bytes_eq word (codes ")")

-- the steps that the letters of a compressed proof say, from word n on. Numbers name the mandatory hypotheses, then the listed labels,
-- and then what was saved
abbrev pub letter_steps : List (List ℕ) → List (List ℕ) → ℕ → List (List ℕ) → Spot → Steps
letter_steps mandatory listed n words close = in_order (readings_of_groups (map Named (mandatory ++ listed)) close 0 (groups (letters_from n words)))

-- the steps of a compressed proof, by its words after the `(`. Each label of the list has to be one that can be used; else the first that is
-- not is the fault. Then the letters count. P03 comes if no `)` ends the list
abbrev pub compressed_steps : Setting → List (List ℕ) → List (List ℕ) → Spot → Steps
compressed_steps place mandatory words close = let listed = before_first is_close words in
    result_and (in_order (readings_of_words (read_label place) 1 listed))
    (if list_any is_close words then letter_steps mandatory listed (length listed + 2) (after_first is_close words) close
    else Err (record { number = P03; spot = close }))

-- the proof is a compressed one: its first word is `(`
abbrev pub is_compressed : List (List ℕ) → Bool
is_compressed [] = false
is_compressed (word ∷ words) = bytes_eq word (codes "(")

-- the steps of a compressed proof, or of a normal one
abbrev pub steps_in : Setting → List (List ℕ) → List (List ℕ) → Spot → Steps
steps_in place mandatory words close =
    if is_compressed words then compressed_steps place mandatory (drop 1 words) close
    else in_order (readings_of_words (read_word place) 0 words)

-- what a proof decodes to at a place, by the labels of the mandatory hypotheses: its steps, their spots, and the spot at which it ends; or its
-- first fault P01 to P06
abbrev pub decoding : Setting → List (List ℕ) → List (List ℕ) → Result Decoded ProofFault
decoding place mandatory words = let close = word_spot (length words) in
    result_map_both (λ steps. record { steps = map (λ step. step.0) steps; spots = map (λ step. step.1) steps; close = close }) (λ fault. fault)
    (steps_in place mandatory words close)
