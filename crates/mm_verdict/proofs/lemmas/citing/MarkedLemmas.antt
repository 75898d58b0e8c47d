-- What is marked counts for the assertions of entries alone.
use Rattle.std.proofs.{Common.{arith, ◌≡◌, ℕ, suc, ◌+◌, Bool, true, List, [], ◌∷◌, drop, refl, ap, inl, inr, eq-eqb}, lemmas.{Grind.{common_steps}, Bool.{cases_Bool}}}
use Rattle.mm_frame.specs.declared.base.Resolved.{Resolved}
use Rattle.mm_verdict.specs.Code.Cited.{without, item_cites, is_listed}
use Rattle.mm_frame.specs.declared.base.Resolved.TheVariants as answers

-- one of the rest is one of all
listed_on : (label : Resolved) (labels : List Resolved) (j : ℕ) → is_listed labels j ≡ true → is_listed (label ∷ labels) j ≡ true
listed_on label labels j e = grind (arith, common_steps) steps 200000

pub listed_behind : (n : ℕ) (labels : List Resolved) (j : ℕ) → is_listed (drop n labels) j ≡ true → is_listed labels j ≡ true
listed_behind (suc n) (label ∷ labels) j e = listed_on label labels j (listed_behind n labels j e)
listed_behind _ _ j e = e

listed_here : (j : ℕ) (labels : List Resolved) → is_listed (answers.Assertion j ∷ labels) j ≡ true
listed_here j labels = rw (eq-eqb j j refl) refl

-- tests that are alike for the assertions of the entries give the same words
pub cites_alike : (S T : ℕ → Bool) (n : ℕ) (labels : List Resolved) → ((j : ℕ) → is_listed labels j ≡ true → S j ≡ T j) → item_cites S n labels ≡ item_cites T n labels
cites_alike S T n [] same = refl
cites_alike S T n (answers.Assertion j ∷ labels) same = elim (cases_Bool (T j)) [
  | inl f ↦ rw (same j (listed_here j labels), f) (ap (◌∷◌ n) (cites_alike (without S j) (without T j) (n + 1) labels (λ i e. rw (same i (listed_on (answers.Assertion j) labels i e)) refl)))
  | inr f ↦ rw (same j (listed_here j labels), f) (cites_alike S T (n + 1) labels (λ i e. same i (listed_on (answers.Assertion j) labels i e)))
]
cites_alike S T n (_ ∷ labels) same = cites_alike S T (n + 1) labels (λ i e. same i e)
