-- The table of numbers, and worked proofs, by computing.
use Rattle.std.proofs.Common.{◌≡◌, ℕ, if◌then◌else◌, Ok, Err, List, [], ◌∷◌, ◌++◌, refl, codes, bytes_eq, replicate, Result}
use Rattle.mm_machine.specs.Language.{Frame.{LabelMeaning, Hypothesis, Assertion, Inactive, Unknown, Setting}, Expansion.{Step, Named, Saved, Save, NotKnown}, Run.{run_part}, Verdict.{Decoded}}
use Rattle.mm_machine.specs.declared.{Spot.{Spot}, ProofNumber.TheVariants.{P01, P02, P03, P04, P05, P06}, step.ProofFault.{ProofFault}}
use Rattle.mm_verdict.specs.Language.{Decoding.{decoding}, Citing.{cites}}

-- a place: `wp` is an active hypothesis, `wi` an assertion, `old` a hypothesis that is not active
meaning : List ℕ → LabelMeaning
meaning label =
    if bytes_eq label (codes "wp") then Hypothesis []
    else if bytes_eq label (codes "wi") then Assertion (record { expression = []; hypotheses = []; pairs = [] })
    else if bytes_eq label (codes "old") then Inactive
    else Unknown

here : Setting
unfolding meaning
here = record { resolve = meaning; active = [] }

steps_of : Result Decoded ProofFault → Result (List Step) ProofFault
steps_of (Ok d) = Ok d.steps
steps_of (Err fault) = Err fault

read : List (List ℕ) → Result (List Step) ProofFault
unfolding steps_of here meaning
read words = steps_of (decoding here (codes "wp" ∷ []) words)

at : ℕ → ℕ → Spot
at word letter = record { word = word; letter = letter }

-- the list `( wi )` and these words of letters
with_list : List (List ℕ) → List (List ℕ)
with_list letters = codes "(" ∷ codes "wi" ∷ codes ")" ∷ letters

wp : Step
wp = Named (codes "wp")

wi : Step
wi = Named (codes "wi")

saved_step : read (with_list (codes "AABZCB" ∷ [])) ≡ Ok (wp ∷ wp ∷ wi ∷ Save ∷ Saved 0 ∷ wi ∷ [])
unfolding read steps_of here meaning with_list wp wi at
saved_step = refl

broken : read (with_list (codes "AAB" ∷ codes "ZC" ∷ codes "B" ∷ [])) ≡ Ok (wp ∷ wp ∷ wi ∷ Save ∷ Saved 0 ∷ wi ∷ [])
unfolding read steps_of here meaning with_list wp wi at
broken = refl

out_of_range : read (with_list (codes "AABCB" ∷ [])) ≡ Err (record { number = P06; spot = at 3 3 })
unfolding read steps_of here meaning with_list wp wi at
out_of_range = refl

cut : read (with_list (codes "AABU" ∷ [])) ≡ Err (record { number = P05; spot = at 4 0 })
unfolding read steps_of here meaning with_list wp wi at
cut = refl

bad : read (with_list (codes "AABa" ∷ [])) ≡ Err (record { number = P04; spot = at 3 3 })
unfolding read steps_of here meaning with_list wp wi at
bad = refl

bad_behind_digits : read (with_list (codes "AAU" ∷ codes "Va" ∷ [])) ≡ Err (record { number = P04; spot = at 4 1 })
unfolding read steps_of here meaning with_list wp wi at
bad_behind_digits = refl

cut_by_save : read (with_list (codes "AU" ∷ codes "Z" ∷ [])) ≡ Err (record { number = P05; spot = at 4 0 })
unfolding read steps_of here meaning with_list wp wi at
cut_by_save = refl

no_letters : read (with_list []) ≡ Ok []
unfolding read steps_of here meaning with_list wp wi at
no_letters = refl

no_close : read (codes "(" ∷ codes "wi" ∷ codes "wp" ∷ []) ≡ Err (record { number = P03; spot = at 3 0 })
unfolding read steps_of here meaning with_list wp wi at
no_close = refl

close_in_word : read (codes "(" ∷ codes "wi)A" ∷ []) ≡ Err (record { number = P01; spot = at 1 0 })
unfolding read steps_of here meaning with_list wp wi at
close_in_word = refl

list_with_unknown : read (codes "(" ∷ codes "?" ∷ codes ")" ∷ codes "a" ∷ []) ≡ Err (record { number = P01; spot = at 1 0 })
unfolding read steps_of here meaning with_list wp wi at
list_with_unknown = refl

behind_unknown : read (codes "?" ∷ codes "nolabel" ∷ []) ≡ Err (record { number = P01; spot = at 1 0 })
unfolding read steps_of here meaning with_list wp wi at
behind_unknown = refl

inactive_first : read (codes "old" ∷ codes "nolabel" ∷ []) ≡ Err (record { number = P02; spot = at 0 0 })
unfolding read steps_of here meaning with_list wp wi at
inactive_first = refl

normal : read (codes "wp" ∷ codes "?" ∷ codes "wi" ∷ []) ≡ Ok (wp ∷ NotKnown ∷ wi ∷ [])
unfolding read steps_of here meaning with_list wp wi at
normal = refl

unknown_letter : read (with_list (codes "A?B" ∷ [])) ≡ Ok (wp ∷ NotKnown ∷ wi ∷ [])
unfolding read steps_of here meaning with_list wp wi at
unknown_letter = refl

thousand : read (with_list ((replicate 1000 89 ++ 84 ∷ []) ∷ [])) ≡ Err (record { number = P06; spot = at 3 1000 })
unfolding read steps_of here meaning with_list wp wi at
thousand = refl

thousand_cut : read (with_list (replicate 1000 89 ∷ [])) ≡ Err (record { number = P05; spot = at 4 0 })
unfolding read steps_of here meaning with_list wp wi at
thousand_cut = refl

-- the words that cite, of `( x1 .. )` with labels that are listed twice
cited : List (List ℕ) → List ℕ
unfolding here meaning
cited words = cites here words (decoding here (codes "wp" ∷ []) words)

cites_first : cited (codes "(" ∷ codes "wp" ∷ codes "wi" ∷ codes "wi" ∷ codes ")" ∷ codes "AD" ∷ []) ≡ 2 ∷ []
unfolding cited here meaning
cites_first = refl

cites_used : cited (with_list (codes "AA" ∷ [])) ≡ []
unfolding cited here meaning with_list
cites_used = refl

cites_behind_unknown : cited (with_list (codes "?B" ∷ [])) ≡ 1 ∷ []
unfolding cited here meaning with_list
cites_behind_unknown = refl

cites_with_fault : cited (with_list (codes "BU" ∷ [])) ≡ []
unfolding cited here meaning with_list
cites_with_fault = refl

cites_normal : cited (codes "wp" ∷ codes "wi" ∷ codes "?" ∷ codes "wi" ∷ []) ≡ 1 ∷ []
unfolding cited here meaning
cites_normal = refl

-- what is run of a proof with an unknown step, and of one without
part_before_unknown : run_part (wp ∷ wi ∷ NotKnown ∷ wi ∷ NotKnown ∷ []) ≡ wp ∷ wi ∷ []
unfolding wp wi
part_before_unknown = refl

part_of_known : run_part (wp ∷ Save ∷ Saved 0 ∷ wi ∷ []) ≡ wp ∷ Save ∷ Saved 0 ∷ wi ∷ []
unfolding wp wi
part_of_known = refl
