-- The reader of letters, letter by letter.
use Rattle.std.proofs.Common.{rules, arith, ◌≡◌, ◌≤◌, ◌%◌, ◌*◌, ◌-◌, ◌^◌, min, slice_get, OnOk, ℕ, ◌+◌, Bool, false, ◌==◌, cond, Result, Ok, List, [], ◌∷◌, ◌++◌, map, refl, ap, ne_eqb, ◌<◌, length}
use Rattle.std.{proofs.{Common.{get_or, drop, IfErr}, lemmas.{Grind.{common_steps}, List.{map-append, drop_more}}}, specs.{List.{enumerate_from}, Option.{ok_or}}}
use Rattle.mm_machine.specs.{declared.{step.{Action.{Action}, ProofStep.{ProofStep}}, Spot.{Spot}, ProofNumber.{ProofNumber, TheVariants.{P06}}}, Language.{Expansion.{Step}, NamedSteps.{meant}}}
use Rattle.mm_verdict.specs.Language.{Numbers.{is_digit, is_last}, Letters.{Letter, letter_at}, Decoding.{Steps, read_first, nameable, word_spot}}
use Rattle.mm_verdict.specs.{Code.{LeftToRight.{read_behind, read_on, with_steps}, Coded.{meant_or, meant_steps, letters_give}, Reader.{Aim, IsFound}}, declared.letters.LetterReader.{LetterReader}}

abbrev pub step_at : Action → Spot → ProofStep
step_at action spot = record { action = action; spot = spot }

-- one more step that was read
pub with_one : (done : List (Step × Spot)) (step : Step) (spot : Spot) (rest : Steps) → with_steps (done ++ (step, spot) ∷ []) rest ≡ with_steps done (read_first spot (Ok step) rest)
with_one done step spot rest = grind (arith, common_steps) steps 200000

pub meant_more : (names : List Step) (steps : List ProofStep) (action : Action) (spot : Spot) → meant_steps names (steps ++ step_at action spot ∷ []) ≡ meant_steps names steps ++ (meant names action, spot) ∷ []
meant_more names steps action spot = map-append (λ (step : ProofStep). (meant names step.action, step.spot)) steps (step_at action spot ∷ [])

-- a letter that is no digit, as a step
pub step_rest :
    (names : List Step) (close : Spot) (total : Steps) (saves n byte : ℕ) (spot : Spot) (action : Action) (ls : List Letter) (steps more : List ProofStep) (next : ℕ) →
    is_digit byte ≡ false → ◌≡◌ {A = Result Step ProofNumber} (Ok (meant names action)) (read_behind (nameable names saves) n byte) →
    more ≡ steps ++ record { action = action; spot = spot } ∷ [] → next ≡ cond (byte == 90) (saves + 1) saves →
    with_steps (meant_steps names steps) (read_on names close saves n (record { byte = byte; spot = spot } ∷ ls)) ≡ total →
    with_steps (meant_steps names more) (read_on names close next 0 ls) ≡ total
step_rest names close total saves n byte spot action ls steps more next other says more_is next_is rest = search (rules, meant_more, with_one) steps 200000

-- a letter from `A` to `T`, by its place in the alphabet from 0 on
pub last_found :
    (aim : Aim) (reader : LetterReader) (byte last : ℕ) (found : Result Action ProofNumber) → byte < 256 → (byte + 191) % 256 < 20 → last ≡ (byte + 191) % 256 →
    ((names : List Step) (n : ℕ) → length names ≡ reader.labels → reader.digits ≡ min n (2 ^ 64 - 1) →
    meant_or names found ≡ ok_or (slice_get (nameable names reader.saves) (20 * n + last)) P06) → IsFound aim reader byte found
last_found aim reader byte last found fits less same says =
    let is : byte ≡ last + 65 = omega arith in
    record {
      other = grind (arith, common_steps) steps 200000;
      says = λ n len digits. grind (arith, common_steps, says aim.names n len digits) steps 200000;
    }

-- a letter that is none from `A` to `Y`
pub other_found :
    (aim : Aim) (reader : LetterReader) (byte : ℕ) (found : Result Action ProofNumber) → byte < 256 → 25 ≤ (byte + 191) % 256 →
    ((names : List Step) (saves n : ℕ) → is_last byte ≡ false → reader.digits ≡ min n (2 ^ 64 - 1) → meant_or names found ≡ read_behind (nameable names saves) n byte) →
    IsFound aim reader byte found
other_found aim reader byte found fits more says = grind (arith, common_steps) steps 200000

not_saved : (b : Bool) (saves : ℕ) → b ≡ false → saves ≡ cond b (saves + 1) saves
not_saved b saves e = rw e refl

pub no_save : (byte saves : ℕ) → (byte ≡ 90 → ⊥) → saves ≡ cond (byte == 90) (saves + 1) saves
no_save byte saves other = not_saved (byte == 90) saves (ne_eqb byte 90 other)

-- the letters of a word from the k-th on
abbrev pub letters_on : ℕ → ℕ → List ℕ → List Letter
letters_on n k word = map (letter_at n) (enumerate_from k (drop k word))

pub letter_more : (n k : ℕ) (word : List ℕ) → k < length word → letters_on n k word ≡ record { byte = get_or word k 0; spot = record { word = n; letter = k } } ∷ letters_on n (k + 1) word
letter_more n k word less = ap (λ (w : List ℕ). map (letter_at n) (enumerate_from k w)) (drop_more word k 0 less)

-- what the reader is to give for the letters of a proof
abbrev pub aim_of : List Step → List (List ℕ) → ℕ → Aim
aim_of names words from = record { names = names; close = word_spot (length words); total = letters_give names words from }

pub if_err : {T E : Type 0} (P Q : E → Type 0) (r : Result T E) → ((e : E) → P e → Q e) → IfErr r P → IfErr r Q
if_err P Q r more is = grind (arith, common_steps) steps 200000

pub if_ok : {T E : Type 0} (P Q : Type 0) (r : Result T E) → (P → Q) → OnOk r P → OnOk r Q
if_ok P Q r more is = grind (arith, common_steps) steps 200000
