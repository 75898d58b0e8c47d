-- A renaming of symbols, one to one, keeps what a proof decodes to and which of its words cite.
use Rattle.std.{proofs.{Common.{arith, ◌≡◌, ℕ, ◌+◌, Result, Ok, Err, List, length, drop, refl, sym, ap, ◌∙◌, if◌then◌else◌, bytes_eq, codes}, lemmas.Grind.{common_steps}}, specs.Result.{result_and}}
use Rattle.std.specs.List.{list_any, before_first, after_first}
use Rattle.mm_verdict.proofs.lemmas.decoding.OrderLemmas.{decoded}
use Rattle.mm_verdict.specs.Language.{Decoding.{Steps, in_order, usable, read_label, readings_of_words, is_close, letter_steps, is_compressed, word_spot, decoding}, Citing.{cites}}
use Rattle.mm_verdict.specs.Language.DecodingLaws.{RenamingKeepsDecoding}
use Rattle.mm_machine.specs.Language.{Frame.{Symbol, LabelMeaning, Setting}, Expansion.{Step, NotKnown}, Verdict.{Decoded}, SameProof.{AreSameMeaning}, Renaming.{renamed_meaning, IsRenamedSetting}}
use Rattle.mm_machine.specs.declared.{Spot.{Spot}, ProofNumber.{ProofNumber, TheVariants.{P03}}, step.ProofFault.{ProofFault}}

-- what words decode to, by what their labels are read as
abbrev steps_by : (List ℕ → Result Step ProofNumber) → List (List ℕ) → List (List ℕ) → Spot → Steps
steps_by read mandatory words close =
    if is_compressed words then (let listed = before_first is_close (drop 1 words) in
    result_and (in_order (readings_of_words read 1 listed))
    (if list_any is_close (drop 1 words) then letter_steps mandatory listed (length listed + 2) (after_first is_close (drop 1 words)) close
    else Err (record { number = P03; spot = close })))
    else in_order (readings_of_words (λ word. if bytes_eq word (codes "?") then Ok NotKnown else read word) 0 words)

abbrev decoded_by : (List ℕ → Result Step ProofNumber) → List (List ℕ) → List (List ℕ) → Result Decoded ProofFault
decoded_by read mandatory words = decoded (word_spot (length words)) (steps_by read mandatory words (word_spot (length words)))

decoding_is : (place : Setting) (mandatory words : List (List ℕ)) → decoding place mandatory words ≡ decoded_by (read_label place) mandatory words
decoding_is place mandatory words = refl

usable_alike : (to : Symbol → Symbol) (label : List ℕ) (r s : LabelMeaning) → AreSameMeaning (renamed_meaning to r) s → usable label r ≡ usable label s
usable_alike to label r s m = grind (arith, common_steps) steps 200000

decoding_renamed : (to : Symbol → Symbol) (place other : Setting) → IsRenamedSetting to place other → (mandatory words : List (List ℕ)) → decoding place mandatory words ≡ decoding other mandatory words
decoding_renamed to place other s mandatory words =
    let same : read_label place ≡ read_label other = λ i. λ label. usable_alike to label (place.resolve label) (other.resolve label) (s.resolve label) i in
    decoding_is place mandatory words ∙ ap (λ (read : List ℕ → Result Step ProofNumber). decoded_by read mandatory words) same ∙ sym (decoding_is other mandatory words)

cites_renamed : (to : Symbol → Symbol) (place other : Setting) → IsRenamedSetting to place other → (words : List (List ℕ)) (d : Result Decoded ProofFault) → cites place words d ≡ cites other words d
cites_renamed to place other s words d = grind (arith, common_steps) steps 200000

pub keeps_decoding : RenamingKeepsDecoding
keeps_decoding to place other s mandatory words = (decoding_renamed to place other s mandatory words, cites_renamed to place other s words)
