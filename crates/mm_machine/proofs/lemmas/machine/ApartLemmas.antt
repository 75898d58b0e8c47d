-- Elements of lists, one after another, and which of them are apart.
use Rattle.std.proofs.lemmas.{Grind.{common_steps}, Option.{slice_get-get_or, same_Some}, List.{length-drop, get_or_at, drop-append-le, take-append-le, take-append-drop}}
use Rattle.std.proofs.Common.{◌≡◌, ℕ, zero, suc, ◌+◌, ◌-◌, ◌<◌, ◌≤◌, Some, List, ◌∷◌, ◌++◌, length, take, drop, refl, sym, ◌∙◌, ap, arith, inl, inr, length-append, slice_get, Contains, []}
use native.Mathlib.Decide.{dec_lt}
use Rattle.mm_machine.{specs.{Language.Frame.{Symbol, ArePair}, declared.pattern.Entry.{Entry}, Code.PairClause.{IsPair}}, proofs.lemmas.lists.Members.{contains_at, contains_get}}

-- it is said of each element up to a place
abbrev pub EachUpTo : {X : Type 0} → (X → Type 0) → List X → ℕ → Type 0
EachUpTo {X} P xs n = (k : ℕ) (x : X) → k < n → slice_get xs k ≡ Some x → P x

pub each_more : {X : Type 0} (P : X → Type 0) (xs : List X) (n : ℕ) (x : X) → slice_get xs n ≡ Some x → P x → EachUpTo P xs n → EachUpTo P xs (n + 1)
each_more P xs n x at p f k y l b = grind (arith, common_steps, same_Some) steps 200000

pub each_all : {X : Type 0} (P : X → Type 0) (xs : List X) (n : ℕ) → length xs ≤ n → EachUpTo P xs n → (x : X) → Contains xs x → P x
each_all P xs n l f x c = f c.0 x (omega arith) (contains_get xs x c)

-- the pair of two symbols, at a place and nowhere
pub pair_found : (pairs : List (Symbol × Symbol)) (k : ℕ) (p : Symbol × Symbol) (x y : Symbol) → slice_get pairs k ≡ Some p → IsPair p x y → ArePair pairs x y
pair_found pairs k p x y at h = grind (arith, common_steps, contains_at) steps 200000

pub pair_nowhere : (pairs : List (Symbol × Symbol)) (n : ℕ) (x y : Symbol) → length pairs ≤ n → EachUpTo (λ p. IsPair p x y → ⊥) pairs n → ArePair pairs x y → ⊥
pair_nowhere pairs n x y l f (inl c) = each_all (λ (p : Symbol × Symbol). IsPair p x y → ⊥) pairs n l f (x, y) c (inl (refl, refl))
pair_nowhere pairs n x y l f (inr c) = each_all (λ (p : Symbol × Symbol). IsPair p x y → ⊥) pairs n l f (y, x) c (inr (refl, refl))

-- what is at a place of a list that has grown
pub last_at : {X : Type 0} (xs : List X) (x : X) (k : ℕ) → k ≡ length xs → slice_get (xs ++ x ∷ []) k ≡ Some x
last_at xs x k e = slice_get-get_or (xs ++ x ∷ []) k x (omega (arith, length-append xs (x ∷ []))) ∙ ap Some (get_or_at xs x [] x k (sym e))

pub front_at : {X : Type 0} (xs ys : List X) (k : ℕ) → k < length xs → slice_get (xs ++ ys) k ≡ slice_get xs k
front_at [] ys k l = absurd (omega arith)
front_at (x ∷ xs) ys zero l = refl
front_at (x ∷ xs) ys (suc k) l = front_at xs ys k (omega arith)

-- a range of a list whose front is kept
pub range_kept : {X : Type 0} (before after : List X) (s : Entry) → take (length before) after ≡ before → s.end ≤ length before
    → take (s.end - s.start) (drop s.start after) ≡ take (s.end - s.start) (drop s.start before)
range_kept before after s kept l =
    let rest = drop (length before) after in
    let whole : after ≡ before ++ rest = sym (take-append-drop (length before) after) ∙ ap (λ w. w ++ rest) kept in
    elim (dec_lt s.end s.start) [
      | yes o ↦ (let none : s.end - s.start ≡ 0 = omega arith in rw none refl)
      | no o ↦
          let low : s.start ≤ length before = omega arith in
          let room : s.end - s.start ≤ length (drop s.start before) = omega (arith, length-drop s.start before) in
          ap (λ w. take (s.end - s.start) (drop s.start w)) whole
          ∙ ap (take (s.end - s.start)) (drop-append-le s.start before rest low)
          ∙ take-append-le (s.end - s.start) (drop s.start before) rest room
    ]
