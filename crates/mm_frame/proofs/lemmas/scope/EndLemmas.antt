-- What a `$}` leaves of the numbers of active items: the last of them are dropped.
use Rattle.std.proofs.lemmas.{List.{drop-drop, drop-append-le, drop-map}, Grind.{common_steps}, Bool.{false≢true}, Option.{slice_get_within}}
use Rattle.std.proofs.Common.{◌≡◌, ℕ, suc, ◌+◌, ◌-◌, ◌<◌, ◌==◌, Bool, true, false, Some, List, [], ◌∷◌, ◌++◌, length, take, drop, slice_get, refl, sym, ◌∙◌, ap, subst, append_assoc, arith, inl, inr}
use Rattle.std.{proofs.Common.{◌⊎◌}, specs.Prelude.{Contains}}
use Rattle.mm_frame.proofs.lemmas.frames.HypothesisNumbers.{front_below, to_active_number, from_active_number, active_numbers_rise, same_rising}
use Rattle.mm_frame.proofs.lemmas.lists.{Members.{In, in_contains, contains_in, in_left, in_right, in_cases}, Rising.{rising_front, get_drop}}
use Rattle.mm_frame.proofs.lemmas.scope.{ActiveBySplit.{closed_none, counted, stays_front}, SoundItems.{split_at}, BlockLemmas.{get_front, get_cases, stays_of}}
use Rattle.mm_frame.specs.{Language.{Scope.{closed, stays, active_numbers}, Marks.{Mark}}, Code.{BlockMarks.{stays_by, block_marks}, LastItems.{is_active_at, IsRising}, KeptActive.{IsPruned}}}
use Rattle.mm_statement.specs.Language.Item.{Said}

-- what is active after one more item was active before it
pub active_at_front : (before : List Said) (item : Said) (n : ℕ) → n < length before → is_active_at (before ++ item ∷ []) n ≡ true → is_active_at before n ≡ true
active_at_front before item n l h = stays_front (drop (suc n) before) (item ∷ []) (subst (λ w. stays w ≡ true) (drop-append-le (suc n) before (item ∷ []) (omega arith)) h)

-- items that end as many blocks of those before them
closed_same : (xs ys zs : List Said) → closed ys ≡ closed zs → closed (xs ++ ys) ≡ closed (xs ++ zs)
closed_same [] ys zs e = e
closed_same (x ∷ xs) ys zs e = ap (counted x) (closed_same xs ys zs e)

-- if an earlier item and a later one were active, the earlier one is active as long as the later one is
pub active_at_earlier : (before : List Said) (item : Said) (m n : ℕ) (x : Said) → m < n → slice_get before n ≡ Some x → is_active_at before m ≡ true → is_active_at (before ++ item ∷ []) n ≡ true → is_active_at (before ++ item ∷ []) m ≡ true
active_at_earlier before item m n x l e h k =
    let w = slice_get_within before n x e in
    let gap = n - suc m in
    let at : n ≡ suc m + gap = omega arith in
    let next : suc m + suc gap ≡ suc n = omega arith in
    let middle = take gap (drop (suc m) before) in
    let back = drop (suc n) before in
    let parts : drop (suc m) before ≡ middle ++ x ∷ back =
    split_at (drop (suc m) before) gap x (get_drop before (suc m) gap n (sym at) ∙ e) ∙ ap (λ ys. middle ++ x ∷ ys) (drop-drop (suc gap) (suc m) before ∙ ap (λ p. drop p before) next) in
    let later : stays (back ++ item ∷ []) ≡ true = subst (λ ys. stays ys ≡ true) (drop-append-le (suc n) before (item ∷ []) (omega arith)) k in
    let none = closed_none (back ++ item ∷ []) later ∙ sym (closed_none back (stays_front back (item ∷ []) later)) in
    let same : closed (middle ++ x ∷ (back ++ item ∷ [])) ≡ closed (middle ++ x ∷ back) = closed_same middle (x ∷ (back ++ item ∷ [])) (x ∷ back) (ap (counted x) none) in
    ap stays (drop-append-le (suc m) before (item ∷ []) (omega arith) ∙ ap (λ ys. ys ++ item ∷ []) parts ∙ append_assoc middle (x ∷ back) (item ∷ [])) ∙ ap (λ c. c == 0) same ∙ ap stays (sym parts) ∙ h

-- a number of an active item after one more that does not pass
number_before : (test : Said → Bool) (before : List Said) (item : Said) → test item ≡ false → (n : ℕ) → In n (active_numbers test (before ++ item ∷ [])) → In n (active_numbers test before) × (is_active_at (before ++ item ∷ []) n ≡ true)
number_before test before item t n h =
    let r = from_active_number test (before ++ item ∷ []) n h in
    elim (get_cases before item r.0 n r.1) [
      | inl e ↦ (let w = slice_get_within before n r.0 e in (to_active_number test before n r.0 e (active_at_front before item n w r.2) r.3, r.2))
      | inr e ↦ absurd (false≢true (sym t ∙ ap test e.1 ∙ r.3))
    ]

-- the last of some numbers
abbrev IsEmptyOrEnds : List ℕ → Type 0
IsEmptyOrEnds numbers = (numbers ≡ []) ⊎ ((front : List ℕ) × (n : ℕ) × (numbers ≡ front ++ n ∷ []))

last_of : (numbers : List ℕ) → IsEmptyOrEnds numbers
last_of [] = inl refl
last_of (n ∷ numbers) = elim (last_of numbers) [
  | inl e ↦ inr ([], n, ap (λ w. n ∷ w) e)
  | inr p ↦ inr (n ∷ p.0, p.1, ap (λ w. n ∷ w) p.2)
]

-- what is left is a beginning, and the longest of which all are still active: so it is what is active after the `$}`
pub pruned_numbers : (test : Said → Bool) (before : List Said) (item : Said) (kept dropped : List ℕ) → test item ≡ false → active_numbers test before ≡ kept ++ dropped → ((n : ℕ) → In n dropped → is_active_at (before ++ item ∷ []) n ≡ false)
    → ((front : List ℕ) (n : ℕ) → kept ≡ front ++ n ∷ [] → is_active_at (before ++ item ∷ []) n ≡ true) → kept ≡ active_numbers test (before ++ item ∷ [])
pruned_numbers test before item kept dropped t e ended last =
    let whole = before ++ item ∷ [] in
    same_rising kept (active_numbers test whole) (rising_front kept dropped (subst IsRising e (active_numbers_rise test before))) (active_numbers_rise test whole)
    (λ n h. (let r = from_active_number test before n (there n h) in
    to_active_number test (before ++ item ∷ []) n r.0 (get_front before item r.0 n r.1) (all_active n h (last_of kept)) r.3))
    (λ n h. let p = number_before test before item t n h in elim (in_cases n kept dropped (subst (In n) e p.0)) [
      | inl a ↦ a
      | inr b ↦ absurd (false≢true (sym (ended n b) ∙ p.1))
    ]) where
      there : (n : ℕ) → In n kept → In n (active_numbers test before)
      there n h = subst (In n) (sym e) (in_left n kept dropped h)

      all_active : (m : ℕ) → In m kept → IsEmptyOrEnds kept → is_active_at (before ++ item ∷ []) m ≡ true
      all_active m h (inl q) = absurd (subst (In m) q h)
      all_active m h (inr (front, n, q)) = elim (in_cases m front (n ∷ []) (subst (In m) q h)) [
        | inl a ↦ let s =
            from_active_number test before n (there n (subst (In n) (sym q) (in_right n front (n ∷ []) (inl refl)))) in
            active_at_earlier before item m n s.0
            (front_below front (n ∷ []) m n (subst IsRising q (rising_front kept dropped (subst IsRising e (active_numbers_rise test before)))) a (inl refl)) s.1
            (from_active_number test before m (there m (subst (In m) (sym q) (in_left m front (n ∷ []) a)))).2 (last front n q)
        | inr b ↦ grind (arith, common_steps) steps 200000
      ]

-- activity by the marks of the items
pub active_by_marks : (items : List Said) (n : ℕ) → is_active_at items n ≡ stays_by (drop (n + 1) (block_marks items))
active_by_marks items n = grind (arith, common_steps, stays_of (drop (suc n) items), drop-map) steps 200000

pub pruned_by_marks : (marks : List Mark) (old new : List ℕ) → IsPruned marks old new → (test : Said → Bool) (before : List Said) (item : Said)
    → test item ≡ false → marks ≡ block_marks (before ++ item ∷ []) → old ≡ active_numbers test before → new ≡ active_numbers test (before ++ item ∷ [])
pruned_by_marks marks old new p test before item t m o =
    pruned_numbers test before item new p.dropped t (sym o ∙ p.parts)
    (λ n h. active_by_marks (before ++ item ∷ []) n ∙ ap (λ w. stays_by (drop (n + 1) w)) (sym m) ∙ p.ended n (in_contains n p.dropped h))
    (λ front n e. active_by_marks (before ++ item ∷ []) n ∙ ap (λ w. stays_by (drop (n + 1) w)) (sym m) ∙ p.last front n e)

-- what went so far
pub record Dropped (marks : List Mark) (old new : List ℕ) : Type 0 where
  pub dropped : List ℕ
  pub parts : old ≡ new ++ dropped
  pub ended : (n : ℕ) → Contains dropped n → stays_by (drop (n + 1) marks) ≡ false

pub dropped_more : (marks : List Mark) (old now new : List ℕ) (number : ℕ) → Dropped marks old now → now ≡ new ++ number ∷ [] → stays_by (drop (number + 1) marks) ≡ false → Dropped marks old new
dropped_more marks old now new number d e f = grind (arith, common_steps, contains_in, in_contains) steps 200000
