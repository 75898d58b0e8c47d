-- The list of labels read from left to right is the list.
use Rattle.std.proofs.{Common.{rules, true, ◌≡◌, ℕ, suc, ◌+◌, false, Result, Ok, Err, List, [], ◌∷◌, ◌++◌, length, refl, ap, ◌∙◌, arith, append-nil, codes}, lemmas.Grind.{common_steps}}
use Rattle.std.{proofs.{lemmas.{Bool.{cases_Bool, or_parts}, Slice.Eq.{bytes_eq-Decides}}, Math.Numerals.{one-add}}, specs.List.{list_any, before_first}}
use Rattle.mm_machine.specs.{Language.{Frame.{Setting}, Expansion.{Step}}, declared.{Spot.{Spot}, ProofNumber.{ProofNumber}}}
use Rattle.mm_verdict.specs.Language.Decoding.{Steps, read_first, in_order, readings_of_words, read_label, is_close, letter_steps, compressed_steps, word_spot}
use Rattle.mm_verdict.{specs.Code.LeftToRight.{behind_label, list_on}, proofs.lemmas.decoding.ReadOnLemmas.{compressed_is, parts}}

-- the labels listed so far can be used, and none is a `)`
abbrev AreListed : Setting → ℕ → List (List ℕ) → Type 0
AreListed place n listed = ((steps : List (Step × Spot)) × (in_order (readings_of_words (read_label place) n listed) ≡ Ok steps)) × (list_any is_close listed ≡ false)

pub word_is : (word : List ℕ) → is_close word ≡ true → word ≡ codes ")"
word_is word e = (bytes_eq-Decides word (codes ")")).0 e

ok_with : (r : Result Step ProofNumber) (spot : Spot) (rest : Steps) (step : Step) (steps : List (Step × Spot)) → r ≡ Ok step → rest ≡ Ok steps → read_first spot r rest ≡ Ok ((step, spot) ∷ steps)
ok_with r spot rest step steps e f = rw (e, f) refl

rest_ok : (r : Result Step ProofNumber) (spot : Spot) (rest : Steps) (steps : List (Step × Spot)) → read_first spot r rest ≡ Ok steps → ((step : Step) × (r ≡ Ok step)) × ((more : List (Step × Spot)) × (rest ≡ Ok more))
rest_ok r spot rest steps e = grind (arith, common_steps) steps 200000

-- one more label
listed_more :
    (place : Setting) (n : ℕ) (listed : List (List ℕ)) (word : List ℕ) (step : Step) (steps : List (Step × Spot)) →
    in_order (readings_of_words (read_label place) n listed) ≡ Ok steps → read_label place word ≡ Ok step →
    (more : List (Step × Spot)) × (in_order (readings_of_words (read_label place) n (listed ++ word ∷ [])) ≡ Ok more)
listed_more place n [] word step steps e f = ((step, word_spot n) ∷ [], rw f refl)
listed_more place n (first ∷ listed) word step steps e f =
    let r = rest_ok (read_label place first) (word_spot n) (in_order (readings_of_words (read_label place) (n + 1) listed)) steps e in
    let more = listed_more place (n + 1) listed word step r.1.0 r.1.1 f in
    ((r.0.0, word_spot n) ∷ more.0, ok_with (read_label place first) (word_spot n) _ r.0.0 more.0 r.0.1 more.1)

-- a label that cannot be used
fails_at :
    (place : Setting) (n : ℕ) (listed : List (List ℕ)) (word : List ℕ) (words : List (List ℕ)) (number : ProofNumber) (steps : List (Step × Spot)) →
    in_order (readings_of_words (read_label place) n listed) ≡ Ok steps → read_label place word ≡ Err number →
    in_order (readings_of_words (read_label place) n (listed ++ word ∷ words)) ≡ Err (record { number = number; spot = word_spot (n + length listed) })
fails_at place n [] word words number steps e f = let k : n ≡ n + 0 = omega arith in rw f (ap (λ (w : ℕ). Err (record { number = number; spot = word_spot w })) k)
fails_at place n (first ∷ listed) word words number steps e f =
    let r = rest_ok (read_label place first) (word_spot n) (in_order (readings_of_words (read_label place) (n + 1) listed)) steps e in
    let k : n + 1 + length listed ≡ n + suc (length listed) = omega arith in
    rw (r.0.1, fails_at place (n + 1) listed word words number r.1.0 r.1.1 f) (ap (λ (w : ℕ). Err (record { number = number; spot = word_spot w })) k)

pub none_more : (listed : List (List ℕ)) (word : List ℕ) → list_any is_close listed ≡ false → is_close word ≡ false → list_any is_close (listed ++ word ∷ []) ≡ false
none_more [] word e f = rw f refl
none_more (first ∷ listed) word e f = let p = or_parts (is_close first) (list_any is_close listed) e in rw (p.0, none_more listed word p.1 f) refl

before_one : (word : List ℕ) (words : List (List ℕ)) → is_close word ≡ false → before_first is_close (word ∷ words) ≡ word ∷ before_first is_close words
before_one word words e = rw (e, one-add) refl

-- the words before the first `)` begin with those that are none
before_none : (listed words : List (List ℕ)) → list_any is_close listed ≡ false → before_first is_close (listed ++ words) ≡ listed ++ before_first is_close words
before_none [] words e = refl
before_none (first ∷ listed) words e = let p = or_parts (is_close first) (list_any is_close listed) e in before_one first (listed ++ words) p.0 ∙ ap (λ (w : List (List ℕ)). first ∷ w) (before_none listed words p.1)

abbrev Joined : Setting → List (List ℕ) → Spot → List (List ℕ) → List (List ℕ) → Type 0
Joined place mandatory close listed words = compressed_steps place mandatory (listed ++ words) close ≡ list_on place mandatory close listed (1 + length listed) words

at_end : (place : Setting) (mandatory : List (List ℕ)) (close : Spot) (listed : List (List ℕ)) → AreListed place 1 listed → Joined place mandatory close listed []
at_end place mandatory close listed are = grind (arith, common_steps, before_none listed [] are.1, append-nil listed, parts) steps 200000

at_close : (place : Setting) (mandatory : List (List ℕ)) (close : Spot) (listed words : List (List ℕ)) → AreListed place 1 listed
    → compressed_steps place mandatory (listed ++ codes ")" ∷ words) close ≡ letter_steps mandatory listed (1 + length listed + 1) words close
at_close place mandatory close listed words are = grind (arith, common_steps, compressed_is place mandatory close listed words are.1) steps 200000

at_fault :
    (place : Setting) (mandatory : List (List ℕ)) (close : Spot) (listed : List (List ℕ)) (word : List ℕ) (words : List (List ℕ)) (number : ProofNumber) →
    AreListed place 1 listed → is_close word ≡ false → read_label place word ≡ Err number →
    compressed_steps place mandatory (listed ++ word ∷ words) close ≡ Err (record { number = number; spot = word_spot (1 + length listed) })
at_fault place mandatory close listed word words number are other fails =
    grind (arith, common_steps, before_none listed (word ∷ words) are.1, before_one word words other, fails_at place 1 listed word (before_first is_close words) number are.0.0 are.0.1 fails, parts) steps 200000

by_label :
    (place : Setting) (mandatory : List (List ℕ)) (close : Spot) (listed : List (List ℕ)) (word : List ℕ) (words : List (List ℕ)) (r : Result Step ProofNumber) →
    read_label place word ≡ r → AreListed place 1 listed → is_close word ≡ false →
    (AreListed place 1 (listed ++ word ∷ []) → Joined place mandatory close (listed ++ word ∷ []) words) →
    compressed_steps place mandatory (listed ++ word ∷ words) close ≡ behind_label (1 + length listed) r (list_on place mandatory close (listed ++ word ∷ []) (1 + length listed + 1) words)
by_label place mandatory close listed word words (Ok step) e are other rest =
    grind (arith, common_steps, listed_more place 1 listed word step are.0.0 are.0.1 e, none_more listed word are.1 other) steps 200000
by_label place mandatory close listed word words (Err number) e are other rest = at_fault place mandatory close listed word words number are other e

list_joined : (place : Setting) (mandatory : List (List ℕ)) (close : Spot) (listed words : List (List ℕ)) → AreListed place 1 listed → Joined place mandatory close listed words
list_joined place mandatory close listed [] are = at_end place mandatory close listed are
list_joined place mandatory close listed (word ∷ words) are =
    search (rules, list_joined place mandatory close (listed ++ word ∷ []) words, at_close, by_label, bytes_eq-Decides, cases_Bool)

-- the list from its beginning
pub list_is : (place : Setting) (mandatory : List (List ℕ)) (close : Spot) (words : List (List ℕ)) → compressed_steps place mandatory words close ≡ list_on place mandatory close [] 1 words
list_is place mandatory close words = list_joined place mandatory close [] words (([], refl), refl)
