-- Numbers of compressed proofs: one more digit, and each number from 1 on is written in exactly one way.
use Rattle.std.proofs.lemmas.{Grind.{common_steps}, Bool.{and_parts, leb-true, le-leb}}
use Rattle.std.proofs.{Common.{◌≡◌, ℕ, zero, suc, ◌+◌, ◌-◌, ◌*◌, ◌/◌, ◌%◌, ◌^◌, ◌<◌, ◌≤◌, true, List, [], ◌∷◌, ◌++◌, length, map, refl, sym, ap, ◌∙◌, arith, inl, inr, ◌⊎◌}, Math.Nat.{pow-succ'}}
use Rattle.std.specs.List.{AllByRecursion}
use Rattle.mm_verdict.{specs.Language.{Numbers.{in_base_five, is_digit, is_last, digit_worth, value_of}, DecodingLaws.{IsWrittenNumber}}, proofs.lemmas.base.StoodLemmas.{longer_by_one}}
use Rattle.mm_verdict.proofs.lemmas.lists.Every.{joined}

power_more : (ds : List ℕ) (d : ℕ) → 5 ^ length (ds ++ d ∷ []) ≡ 5 * 5 ^ length ds
power_more ds d = rw (longer_by_one ds d) (pow-succ' 5 (length ds))

carried : (x p q r s d : ℕ) → q ≡ 5 * p → s ≡ 5 * r + d → x * q + s ≡ 5 * (x * p + r) + d
carried x p q r s d e f = rw (e, f) (omega arith)

-- one more digit after the others
pub base_five_more : (ds : List ℕ) (d : ℕ) → in_base_five (ds ++ d ∷ []) ≡ 5 * in_base_five ds + d
base_five_more [] d = omega arith
base_five_more (x ∷ ds) d = carried x (5 ^ length ds) (5 ^ length (ds ++ d ∷ [])) (in_base_five ds) (in_base_five (ds ++ d ∷ [])) d (power_more ds d) (base_five_more ds d)

-- a digit is 1 to 5
abbrev pub IsWorth : ℕ → Type 0
IsWorth d = (1 ≤ d) × (d ≤ 5)

abbrev pub AreWorth : List ℕ → Type 0
AreWorth ds = AllByRecursion IsWorth ds

-- a list has no element, or a last one
abbrev HasLast : List ℕ → Type 0
HasLast ds = (ds ≡ []) ⊎ ((front : List ℕ) × (d : ℕ) × (ds ≡ front ++ d ∷ []))

has_last : (ds : List ℕ) → HasLast ds
has_last [] = inl refl
has_last (x ∷ ds) = elim (has_last ds) [
  | inl e ↦ inr ([], x, ap (λ (w : List ℕ). x ∷ w) e)
  | inr h ↦ inr (x ∷ h.0, h.1, ap (λ (w : List ℕ). x ∷ w) h.2)
]

worth_front : (front : List ℕ) (d : ℕ) → AreWorth (front ++ d ∷ []) → AreWorth front × IsWorth d
worth_front [] d all = (tt, all.0)
worth_front (x ∷ front) d all = let rest = worth_front front d all.1 in ((all.0, rest.0), rest.1)

-- digits that are there make a number that is not 0
some : (front : List ℕ) (d : ℕ) → IsWorth d → 0 < in_base_five (front ++ d ∷ [])
some front d is = let e = base_five_more front d in omega arith

pub none : (ds : List ℕ) → AreWorth ds → in_base_five ds ≡ 0 → ds ≡ []
none ds all e = grind (arith, common_steps, has_last ds, worth_front, some) steps 200000

apart_within : (n : ℕ) (ds es : List ℕ) → length ds ≤ n → AreWorth ds → AreWorth es → in_base_five ds ≡ in_base_five es → ds ≡ es
apart_within zero [] es few a b same = sym (none es b (sym same))
apart_within zero (d ∷ ds) es few a b same = absurd (omega arith)
apart_within (suc n) ds es few a b same = elim (has_last ds) [
  | inl nil ↦ nil ∙ sym (none es b (sym same ∙ ap in_base_five nil))
  | inr h ↦ elim (has_last es) [
    | inl nil ↦ none ds a (same ∙ ap in_base_five nil) ∙ sym nil
    | inr k ↦
        let w = worth_front h.0 h.1 (rw h.2 at a) in
        let v = worth_front k.0 k.1 (rw k.2 at b) in
        let x = base_five_more h.0 h.1 in
        let y = base_five_more k.0 k.1 in
        let both : in_base_five (h.0 ++ h.1 ∷ []) ≡ in_base_five (k.0 ++ k.1 ∷ []) = sym (ap in_base_five h.2) ∙ same ∙ ap in_base_five k.2 in
        let high : in_base_five h.0 ≡ in_base_five k.0 = omega arith in
        let low : h.1 ≡ k.1 = omega arith in
        let shorter : length h.0 ≤ n = omega (arith, ap length h.2, longer_by_one h.0 h.1) in
        let front = apart_within n h.0 k.0 shorter w.0 v.0 high in
        h.2 ∙ ap (λ (w : List ℕ). w ++ h.1 ∷ []) front ∙ ap (λ (w : ℕ). k.0 ++ w ∷ []) low ∙ sym k.2
  ]
]

-- digits are known by their number
pub digits_apart : (ds es : List ℕ) → AreWorth ds → AreWorth es → in_base_five ds ≡ in_base_five es → ds ≡ es
digits_apart ds es a b same = apart_within (length ds) ds es (omega arith) a b same

abbrev Writes : ℕ → List ℕ → Type 0
Writes n ds = AreWorth ds × (in_base_five ds ≡ n)

written_within : (fuel n : ℕ) → n ≤ fuel → (ds : List ℕ) × Writes n ds
written_within zero n few = ([], (tt, omega arith))
written_within (suc fuel) zero few = ([], (tt, refl))
written_within (suc fuel) (suc n) few =
    let front = written_within fuel (n / 5) (omega arith) in
    let e = base_five_more front.0 (n % 5 + 1) in
    (front.0 ++ (n % 5 + 1) ∷ [], (joined IsWorth front.0 ((n % 5 + 1) ∷ []) front.1.0 ((omega arith, omega arith), tt), (omega (arith, front.1.1))))

-- each number has digits
pub written : (n : ℕ) → (ds : List ℕ) × Writes n ds
written n = written_within n n (omega arith)

pub digit_is : (d : ℕ) → is_digit d ≡ true → (85 ≤ d) × (d ≤ 89)
digit_is d e = let p = and_parts _ _ e in (leb-true 85 d p.0, leb-true d 89 p.1)

worths : (ds : List ℕ) → AllByRecursion (λ d. is_digit d ≡ true) ds → AreWorth (map digit_worth ds)
worths [] all = tt
worths (d ∷ ds) all = let is = digit_is d all.0 in ((omega arith, omega arith), worths ds all.1)

same_digits : (ds es : List ℕ) → AllByRecursion (λ d. is_digit d ≡ true) ds → AllByRecursion (λ d. is_digit d ≡ true) es → map digit_worth ds ≡ map digit_worth es → ds ≡ es
same_digits [] [] a b e = refl
same_digits (x ∷ ds) (y ∷ es) a b e = grind (arith, common_steps, digit_is x a.0, digit_is y b.0, same_digits ds es a.1 b.1 cc) steps 200000
same_digits _ _ a b e = cc

pub numbers_apart : (ds es : List ℕ) (a b : ℕ) → IsWrittenNumber ds a → IsWrittenNumber es b → value_of ds a ≡ value_of es b → (ds ≡ es) × (a ≡ b)
numbers_apart ds es a b m n same = grind (arith, common_steps, same_digits, worths, digits_apart, and_parts, leb-true) steps 200000

spelled : (ds : List ℕ) → AreWorth ds → AllByRecursion (λ d. is_digit d ≡ true) (map (λ d. d + 84) ds)
spelled [] all = tt
spelled (d ∷ ds) all = (rw (le-leb 85 (d + 84) (omega arith), le-leb (d + 84) 89 (omega arith)) refl, spelled ds all.1)

worth_of : (d : ℕ) → d + 84 - 84 ≡ d
worth_of d = omega arith

worth_back : (ds : List ℕ) → map digit_worth (map (λ d. d + 84) ds) ≡ ds
worth_back [] = refl
worth_back (d ∷ ds) = rw (worth_of d, worth_back ds) refl

last_spelled : (a : ℕ) → a < 20 → is_last (a + 65) ≡ true
last_spelled a few = rw (le-leb 65 (a + 65) (omega arith), le-leb (a + 65) 84 (omega arith)) refl

spelled_number : (n q : ℕ) (ds : List ℕ) → 1 ≤ n → q ≡ (n - 1) / 20 → in_base_five ds ≡ q → 20 * in_base_five ds + ((n - 1) % 20 + 65 - 64) ≡ n
spelled_number n q ds some is e = omega arith

pub each_written : (n : ℕ) → 1 ≤ n → (ds : List ℕ) × (a : ℕ) × IsWrittenNumber ds a × (value_of ds a ≡ n)
each_written n some =
    let w = written ((n - 1) / 20) in
    let less : (n - 1) % 20 < 20 = omega arith in
    (map (λ d. d + 84) w.0, (n - 1) % 20 + 65, (spelled w.0 w.1.0, last_spelled ((n - 1) % 20) less), rw (worth_back w.0) (spelled_number n ((n - 1) / 20) w.0 some refl w.1.1))
