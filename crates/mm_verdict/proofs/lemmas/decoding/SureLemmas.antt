-- What decoding makes sure of.
use Rattle.std.proofs.Common.{Err, ◌≡◌, ℕ, zero, suc, ◌+◌, ◌<◌, Bool, true, false, ◌==◌, Option, Some, Result, Ok, List, [], ◌∷◌, ◌++◌, length, map, refl, arith, subst, cond, slice_get, bytes_eq}
use Rattle.std.{proofs.{Common.{codes, sym, ◌∙◌}, lemmas.{Grind.{common_steps}, Bool.{cases_Bool}, List.{length-map}}}, specs.{Option.{option_map_or}, Result.{result_and}}}
use Rattle.std.specs.List.{AllByRecursion, range_with_len}
use Rattle.mm_machine.specs.{declared.{ProofNumber.{ProofNumber, TheVariants.{P05}}, Spot.{Spot}}, Language.{Frame.{LabelMeaning, Setting}, Expansion.{Step, Named, Saved, Save, NotKnown}}}
use Rattle.mm_machine.specs.Language.{Machine.{IsUsable, AreDecoded, AreDecodedAfter}, Verdict.{Decoded}, RunLaws.{SureByCounting}}
use Rattle.mm_verdict.{proofs.lemmas.{decoding.OrderLemmas.{decoded, read_ok}, lists.Every.{joined, mapped}}, specs.Language.Letters.{Letter, Group}}
use Rattle.mm_verdict.specs.Language.Decoding.{Steps, in_order, usable, read_label, read_word, readings_of_words, nameable, read_letter, readings_of_groups, is_compressed, steps_in, word_spot}
use Rattle.mm_verdict.specs.Language.Decoding.{decoding}

abbrev step_list : List (Step × Spot) → List Step
step_list steps = map (λ step. step.0) steps

-- a label that can be used
abbrev pub IsSure : Setting → Step → Type 0
IsSure place (Named label) = IsUsable (place.resolve label)
IsSure place _ = ⊥

-- a step of a normal proof
abbrev IsWord : Setting → Step → Type 0
IsWord place (Named label) = IsUsable (place.resolve label)
IsWord place NotKnown = Unit {0}
IsWord place _ = ⊥

abbrev AreSure : Setting → List Step → Type 0
AreSure place steps = AllByRecursion (IsSure place) steps

-- a step of letters after some saves, which is a save or none
abbrev IsAfter : Setting → ℕ → Bool → Step → Type 0
IsAfter place saves save (Named label) = (save ≡ false) × IsUsable (place.resolve label)
IsAfter place saves save (Saved n) = (save ≡ false) × (n < saves)
IsAfter place saves save Save = save ≡ true
IsAfter place saves save NotKnown = save ≡ false

pub usable_is : (label : List ℕ) (r : LabelMeaning) (step : Step) → usable label r ≡ Ok step → (step ≡ Named label) × IsUsable r
usable_is label r step h = grind (arith, common_steps) steps 200000

word_sure : (place : Setting) (word : List ℕ) (step : Step) → read_word place word ≡ Ok step → IsWord place step
word_sure place word step h = grind (arith, common_steps, cases_Bool (bytes_eq word (codes "?")), usable_is) steps 200000

word_then : (place : Setting) (saves : ℕ) (step : Step) (more : List Step) → IsWord place step → AreDecodedAfter place saves more → AreDecodedAfter place saves (step ∷ more)
word_then place saves step more is rest = grind (arith, common_steps) steps 200000

after_then : (place : Setting) (saves : ℕ) (save : Bool) (step : Step) (more : List Step) → IsAfter place saves save step → AreDecodedAfter place (cond save (saves + 1) saves) more → AreDecodedAfter place saves (step ∷ more)
after_then place saves save step more is rest = grind (arith, common_steps) steps 200000

words_sure : (place : Setting) (read : List ℕ → Result Step ProofNumber) → ((word : List ℕ) (step : Step) → read word ≡ Ok step → IsWord place step)
    → (n : ℕ) (words : List (List ℕ)) (steps : List (Step × Spot)) → in_order (readings_of_words read n words) ≡ Ok steps
    → AreDecodedAfter place 0 (step_list steps)
words_sure place read each n [] steps e = let k : steps ≡ [] = cc in rw k tt
words_sure place read each n (word ∷ words) steps e =
    let r = read_ok (word_spot n) (read word) (in_order (readings_of_words read (n + 1) words)) steps e in
    rw r.4 (word_then place 0 r.0 (step_list r.1) (each word r.0 r.2) (words_sure place read each (n + 1) words r.1 r.3))

list_sure : (place : Setting) (n : ℕ) (words : List (List ℕ)) (steps : List (Step × Spot)) → in_order (readings_of_words (read_label place) n words) ≡ Ok steps → AllByRecursion (λ label. IsUsable (place.resolve label)) words
list_sure place n [] steps e = tt
list_sure place n (word ∷ words) steps e =
    let r = read_ok (word_spot n) (read_label place word) (in_order (readings_of_words (read_label place) (n + 1) words)) steps e in
    ((usable_is word (place.resolve word) r.0 r.2).1, list_sure place (n + 1) words r.1 r.3)

all_sure : (place : Setting) (some more : List (List ℕ)) → AllByRecursion (λ label. IsUsable (place.resolve label)) some → AllByRecursion (λ label. IsUsable (place.resolve label)) more → AreSure place (map Named (some ++ more))
all_sure place some more a b = mapped (IsSure place) Named (some ++ more) (joined (λ label. IsUsable (place.resolve label)) some more a b)

saved_at : (from saves k : ℕ) (step : Step) → slice_get (map Saved (range_with_len from saves)) k ≡ Some step → (n : ℕ) × (step ≡ Saved n) × (n < from + saves)
saved_at from zero k step e = cc
saved_at from (suc saves) zero step e = (from, cc, omega arith)
saved_at from (suc saves) (suc k) step e = let r = saved_at (from + 1) saves k step e in (r.0, r.1, omega arith)

sure_after : (place : Setting) (saves : ℕ) (step : Step) → IsSure place step → IsAfter place saves false step
sure_after place saves step is = grind (arith, common_steps) steps 200000

named_at : (place : Setting) (labels : List Step) (saves k : ℕ) (step : Step) → AreSure place labels → slice_get (nameable labels saves) k ≡ Some step → IsAfter place saves false step
named_at place [] saves k step all e = let r = saved_at 0 saves k step e in rw r.1 (refl, omega arith)
named_at place (label ∷ labels) saves zero step all e = let is : label ≡ step = cc in sure_after place saves step (subst (IsSure place) is all.0)
named_at place (label ∷ labels) saves (suc k) step all e = named_at place labels saves k step all.1 e

byte_sure : (place : Setting) (labels : List Step) (saves : ℕ) (digits : List Letter) (byte : ℕ) (step : Step) → AreSure place labels → read_letter (nameable labels saves) digits byte ≡ Ok step → IsAfter place saves (byte == 90) step
byte_sure place labels saves digits byte step all e = grind (arith, common_steps, cases_Bool, named_at) steps 200000

-- a group ends with a `Z`
abbrev saves_at : Option Letter → Bool
saves_at last = option_map_or (λ (letter : Letter). letter.byte == 90) last false

group_sure : (place : Setting) (labels : List Step) (saves : ℕ) (digits : List Letter) (last : Option Letter) (step : Step) → AreSure place labels
    → option_map_or (λ (letter : Letter). read_letter (nameable labels saves) digits letter.byte) last (Err P05) ≡ Ok step → IsAfter place saves (saves_at last) step
group_sure place labels saves digits last step all e = grind (arith, common_steps, byte_sure) steps 200000

pub groups_sure : (place : Setting) (labels : List Step) (close : Spot) (saves : ℕ) (gs : List Group) (steps : List (Step × Spot)) → AreSure place labels
    → in_order (readings_of_groups labels close saves gs) ≡ Ok steps → AreDecodedAfter place saves (step_list steps)
groups_sure place labels close saves [] steps all e = let k : steps ≡ [] = cc in rw k tt
groups_sure place labels close saves (g ∷ gs) steps all e =
    let r = read_ok (option_map_or (λ (letter : Letter). letter.spot) g.last close)
    (option_map_or (λ (letter : Letter). read_letter (nameable labels saves) g.digits letter.byte) g.last (Err P05)) (in_order (readings_of_groups labels close (cond (saves_at g.last) (saves + 1) saves) gs)) steps e in
    rw r.4 (after_then place saves (saves_at g.last) r.0 (step_list r.1) (group_sure place labels saves g.digits g.last r.0 all r.2) (groups_sure place labels close (cond (saves_at g.last) (saves + 1) saves) gs r.1 all r.3))

pub read_behind : (list rest : Steps) (steps : List (Step × Spot)) → result_and list rest ≡ Ok steps → ((some : List (Step × Spot)) × (list ≡ Ok some)) × (rest ≡ Ok steps)
read_behind list rest steps e = grind (arith, common_steps) steps 200000

steps_sure : (place : Setting) (mandatory words : List (List ℕ)) (close : Spot) (steps : List (Step × Spot))
    → AllByRecursion (λ label. IsUsable (place.resolve label)) mandatory → steps_in place mandatory words close ≡ Ok steps
    → AreDecodedAfter place 0 (step_list steps)
steps_sure place mandatory words close steps all e = grind (arith, common_steps, cases_Bool (is_compressed words), word_sure place, words_sure, all_sure, cases_Bool, groups_sure, list_sure, read_behind) steps 200000

pub decoded_ok : (close : Spot) (s : Steps) (d : Decoded) → decoded close s ≡ Ok d → (steps : List (Step × Spot)) × (s ≡ Ok steps) × (d ≡ record { steps = map (λ step. step.0) steps; spots = map (λ step. step.1) steps; close = close })
decoded_ok close s d e = grind (arith, common_steps) steps 200000

same_count : (steps : List (Step × Spot)) → length (map (λ (step : Step × Spot). step.1) steps) ≡ length (map (λ (step : Step × Spot). step.0) steps)
same_count steps = length-map steps (λ (step : Step × Spot). step.1) ∙ sym (length-map steps (λ (step : Step × Spot). step.0))

pub decodes_surely : SureByCounting → (place : Setting) (mandatory words : List (List ℕ)) (d : Decoded) → AllByRecursion (λ label. IsUsable (place.resolve label)) mandatory
    → decoding place mandatory words ≡ Ok d → AreDecoded place d.steps × (length d.spots ≡ length d.steps)
decodes_surely counts place mandatory words d all e =
    let s = decoded_ok (word_spot (length words)) (steps_in place mandatory words (word_spot (length words))) d e in
    rw s.2 ((counts place (step_list s.0)).0 (steps_sure place mandatory words (word_spot (length words)) s.0 all s.1), same_count s.0)
