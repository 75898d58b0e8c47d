-- Blocks by the height of the items before each number.
use Rattle.std.proofs.{lemmas.Grind.{common_steps}, Common.{◌≡◌, ℕ, zero, suc, ◌+◌, ◌-◌, ◌≤◌, ◌<◌, sym, ◌∙◌, ap, subst, arith}}
use native.Mathlib.Decide.{dec_lt}

-- heights that change by one at most from one number to the next
pub record IsHeight (high : ℕ → ℕ) : Type 0 where
  pub base : high 0 ≡ 0
  pub up : (k : ℕ) → high (suc k) ≤ suc (high k)
  pub down : (k : ℕ) → high k ≤ suc (high (suc k))

pub record EndsAt (high : ℕ → ℕ) (b e : ℕ) : Type 0 where
  pub behind : b < e
  pub even : high (suc e) ≡ high b
  pub first : (k : ℕ) → b < k → k < e → high (suc k) ≡ high b → ⊥

-- inside a block it is higher than before it
inside_at : (high : ℕ → ℕ) → IsHeight high → (b e k : ℕ) → EndsAt high b e → high (suc b) ≡ suc (high b) → k < e - b → high b < high (suc (b + k))
inside_at high h b e zero d s l = grind (arith, common_steps) steps 200000
inside_at high h b e (suc k) d s l =
    let r = inside_at high h b e k d s (omega arith) in
    let n : high (suc (suc (b + k))) ≡ high b → ⊥ = λ z. d.first (suc (b + k)) (omega arith) (omega arith) z in
    grind (arith, common_steps) steps 200000

pub inside : (high : ℕ → ℕ) → IsHeight high → (b e k : ℕ) → EndsAt high b e → high (suc b) ≡ suc (high b) → b ≤ k → k < e → high b < high (suc k)
inside high h b e k d s l m = grind (arith, common_steps, inside_at high h b e (k - b) d s (omega arith)) steps 200000

-- the last number before n from which it rises above a height
pub record Rise (high : ℕ → ℕ) (low n : ℕ) : Type 0 where
  pub at : ℕ
  pub behind : at < n
  pub there : high at ≡ low
  pub rises : high (suc at) ≡ suc low
  pub above : (m : ℕ) → at < m → m ≤ n → low < high m

rise : (high : ℕ → ℕ) → IsHeight high → (low n : ℕ) → low < high n → Rise high low n
rise high h low zero l = absurd (omega arith)
rise high h low (suc n) l = elim (dec_lt low (high n)) [
  | yes a ↦ grind (arith, common_steps, rise high h low n a, dec_lt) steps 200000
  | no b ↦ (let u = h.up n in
      record { at = n; behind = omega arith; there = omega arith; rises = omega arith; above = λ m x y. (let q : suc n ≡ m = omega arith in subst (λ w. low < high w) q l) })
]
  where
    more : (r : Rise high low n) (m : ℕ) → r.at < m → Dec (n < m) → m ≤ suc n → low < high m
    more r m x (yes g) y = let q : suc n ≡ m = omega arith in subst (λ w. low < high w) q l
    more r m x (no g) y = r.above m x (omega arith)

-- no item between i and j goes below the height of i exactly when each block around i is around j
pub from_height : (high : ℕ → ℕ) → IsHeight high → (i j b e : ℕ) → ((k : ℕ) → i < k → k ≤ j → high (suc i) ≤ high k) → high j ≤ high (suc j) → EndsAt high b e → high (suc b) ≡ suc (high b) → b < i → i < e → j < e
from_height high h i j b e stay flat d s l m = elim (dec_lt j e) [
  | yes a ↦ a
  | no n ↦ absurd (by_end (omega arith) (dec_lt e j))
]
  where
    by_end : e ≤ j → Dec (e < j) → ⊥
    by_end n (yes a) =
        let x = inside high h b e i d s (omega arith) m in
        let y = stay (suc e) (omega arith) (omega arith) in
        omega arith
    by_end n (no c) = grind (arith, common_steps, inside high h b e (e - 1) d s (omega arith) (omega arith)) steps 200000

-- if it goes below that height first, a block ends
abbrev pub Around : (ℕ → ℕ) → ℕ → ℕ → Type 0
Around high i j = (b : ℕ) → b < i → high (suc b) ≡ suc (high b) → ((e : ℕ) → EndsAt high b e → i < e) → (e : ℕ) → EndsAt high b e → j < e

step_above : (high : ℕ → ℕ) (i k low : ℕ) → ((n : ℕ) → n ≤ k → high (suc i) ≤ high (suc (i + n))) → low < high (suc i) → (r : Rise high low (suc i)) → (n : ℕ) → r.at < n → n ≤ suc (i + k) → Dec (n < suc i) → low < high n
step_above high i k low before y r n c d (yes g) = r.above n c (omega arith)
step_above high i k low before y r n c d (no g) =
    let q : suc (i + (n - suc i)) ≡ n = omega arith in
    grind (arith, common_steps) steps 200000

step_holds : (high : ℕ → ℕ) (i low : ℕ) → (r : Rise high low (suc i)) (e : ℕ) → EndsAt high r.at e → Dec (i < e) → i < e
step_holds high i low r e d h = grind (arith, common_steps) steps 200000

step : (high : ℕ → ℕ) → IsHeight high → (i j k : ℕ) → high (suc i) ≡ high i → Around high i j → suc (i + suc k) ≤ j
    → ((n : ℕ) → n ≤ k → high (suc i) ≤ high (suc (i + n))) → Rise high (high (suc (i + suc k))) (suc i) → high (suc (i + suc k)) < high (suc i) → ⊥
step high h i j k flat blocks l before r y =
    let t = r.there in
    let low = high (suc (i + suc k)) in
    let ends : EndsAt high r.at (i + suc k) = record { behind = omega arith; even = sym t; first = λ n c d f. (let w = step_above high i k low before y r (suc n) (omega arith) (omega arith) (dec_lt (suc n) (suc i)) in omega arith) } in
    let z =
    blocks r.at (grind (arith, common_steps, dec_lt r.at i) steps 200000) (r.rises ∙ ap suc (sym t)) (λ e d. step_holds high i low r e d (dec_lt i e))
    (i + suc k) ends in
    omega arith

step_case : (high : ℕ → ℕ) → IsHeight high → (i j k : ℕ) → high (suc i) ≡ high i → Around high i j → suc (i + suc k) ≤ j
    → ((n : ℕ) → n ≤ k → high (suc i) ≤ high (suc (i + n))) → (m : ℕ) → m ≤ suc k → Dec (k < m) → Dec (high (suc (i + suc k)) < high (suc i))
    → high (suc i) ≤ high (suc (i + m))
step_case high h i j k flat blocks l before m a (no n) d = before m (omega arith)
step_case high h i j k flat blocks l before m a (yes n) (yes y) = absurd (step high h i j k flat blocks l before (rise high h (high (suc (i + suc k))) (suc i) y) y)
step_case high h i j k flat blocks l before m a (yes n) (no y) = let q : suc k ≡ m = omega arith in subst (λ w. high (suc i) ≤ high (suc (i + w))) q (omega arith)

pub to_height : (high : ℕ → ℕ) → IsHeight high → (i j : ℕ) → high (suc i) ≡ high i → Around high i j → (k : ℕ) → suc (i + k) ≤ j → (m : ℕ) → m ≤ k → high (suc i) ≤ high (suc (i + m))
to_height high h i j flat blocks zero l m a = (let q : i ≡ i + m = omega arith in subst (λ w. high (suc i) ≤ high (suc w)) q (omega arith))
to_height high h i j flat blocks (suc k) l m a = step_case high h i j k flat blocks l (to_height high h i j flat blocks k (omega arith)) m a (dec_lt k m) (dec_lt (high (suc (i + suc k))) (high (suc i)))
