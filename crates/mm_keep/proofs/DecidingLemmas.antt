-- What can be decided: lists, members, and numbers below a bound.
use Rattle.std.proofs.lemmas.{Grind.{common_steps}, Bool.{false≢true}, Option.{none-some, same_Some}, Slice.Eq.{bytes_eq-Decides}}
use Rattle.std.proofs.{Common.{◌≡◌, ◌⊎◌, ◌<◌, ℕ, zero, suc, ◌+◌, Bool, Option, Some, None, List, [], ◌∷◌, ◌++◌, length, refl, sym, ap, subst, arith, Contains}, Math.Decide.{dec_lt, map_dec}}
use Rattle.std.specs.List.{AllByRecursion, AllZip}
use Rattle.mm_keep.{specs.Language.Runs.{AreThose}, proofs.RunLemmas.{those_none, those_skip, those_more}}

pub dec_and : {P Q : Type 0} → Dec P → Dec Q → Dec (P × Q)
dec_and p q = grind (arith, common_steps) steps 200000

pub dec_or : {P Q : Type 0} → Dec P → Dec Q → Dec (P ⊎ Q)
dec_or p q = grind (arith, common_steps) steps 200000

pub dec_not : {P : Type 0} → Dec P → Dec (¬ P)
dec_not p = grind (arith, common_steps) steps 200000

-- ---- values

pub dec_bool : (a b : Bool) → Dec (a ≡ b)
dec_bool a b = grind (arith, common_steps, false≢true) steps 200000

pub dec_bytes : (xs ys : List ℕ) → Dec (xs ≡ ys)
dec_bytes xs ys = grind (arith, common_steps, bytes_eq-Decides xs ys, false≢true) steps 200000

pub dec_label : (a b : Option (List ℕ)) → Dec (a ≡ b)
dec_label None None = yes refl
dec_label None (Some b) = no (λ e. none-some b e)
dec_label (Some a) None = no (λ e. none-some a (sym e))
dec_label (Some a) (Some b) = map_dec (λ e. ap Some e) (λ e. same_Some a b e) (dec_bytes a b)

-- ---- members

pub first_of_list : {X : Type 0} (x : X) (xs : List X) → Contains (x ∷ xs) x
first_of_list x xs = (0, omega arith, refl)

pub later_of_list : {X : Type 0} (x k : X) (xs : List X) → Contains xs k → Contains (x ∷ xs) k
later_of_list x k xs h = (suc h.0, by h.1, h.2)
  where
    by : h.0 < length xs → suc h.0 < length (x ∷ xs)
    by l = omega arith

pub member_cases : {X : Type 0} (x k : X) (xs : List X) → Contains (x ∷ xs) k → (x ≡ k) ⊎ Contains xs k
member_cases x k xs h = grind (arith, common_steps) steps 200000

module _ {X : Type 0} (same : (a b : X) → Dec (a ≡ b)) where
  both_same : (x y : X) (xs ys : List X) → Dec (x ≡ y) → Dec (xs ≡ ys) → Dec (x ∷ xs ≡ y ∷ ys)
  both_same x y xs ys either d = grind (arith, common_steps) steps 200000

  pub dec_list : (xs ys : List X) → Dec (xs ≡ ys)
  dec_list [] [] = yes refl
  dec_list (x ∷ xs) (y ∷ ys) = both_same x y xs ys (same x y) (dec_list xs ys)
  dec_list _ _ = no (λ e. absurd (cc))

  member_from : (x k : X) (xs : List X) → (x ≡ k) ⊎ Contains xs k → Contains (x ∷ xs) k
  member_from x k xs either = grind (arith, common_steps, first_of_list, later_of_list) steps 200000

  pub dec_contains : (xs : List X) (k : X) → Dec (Contains xs k)
  dec_contains [] k = no (λ h. (omega (arith, h.1)))
  dec_contains (x ∷ xs) k = map_dec (member_from x k xs) (member_cases x k xs) (dec_or (same x k) (dec_contains xs k))

pub dec_each : {X : Type 0} (P : X → Type 0) → ((x : X) → Dec (P x)) → (xs : List X) → Dec (AllByRecursion P xs)
dec_each P d [] = yes tt
dec_each P d (x ∷ xs) = dec_and (d x) (dec_each P d xs)

pub dec_zip : {A B : Type 0} (R : A → B → Type 0) → ((a : A) (b : B) → Dec (R a b)) → (xs : List A) (ys : List B) → Dec (AllZip R xs ys)
dec_zip R d (x ∷ xs) (y ∷ ys) = dec_and (d x y) (dec_zip R d xs ys)
dec_zip R d b xs = grind (arith, common_steps) steps 200000

-- ---- numbers

-- whether there is one below a bound of which it holds
pub dec_below : (P : ℕ → Type 0) (n : ℕ) → ((k : ℕ) → k < n → Dec (P k)) → Dec ((k : ℕ) × (k < n) × P k)
dec_below P zero d = no (λ h. (omega (arith, h.1)))
dec_below P (suc n) d = by (d n (omega arith)) (dec_below P n (λ k l. d k (omega (arith, l))))
  where
    by : Dec (P n) → Dec ((k : ℕ) × (k < n) × P k) → Dec ((k : ℕ) × (k < suc n) × P k)
    by (yes p) rest = yes (n, omega arith, p)
    by (no q) (yes h) = yes (h.0, omega (arith, h.1), h.2)
    by (no q) (no r) = grind (arith, common_steps, dec_lt) steps 200000

-- those below a bound of which it holds
pub have_those : (P : ℕ → Type 0) → ((k : ℕ) → Dec (P k)) → (n : ℕ) → (numbers : List ℕ) × AreThose P n numbers
have_those P d zero = ([], those_none P)
have_those P d (suc n) = by (d n) (have_those P d n)
  where
    next : n + 1 ≡ suc n
    next = omega arith

    by : Dec (P n) → (numbers : List ℕ) × AreThose P n numbers → (numbers : List ℕ) × AreThose P (suc n) numbers
    by (yes p) h = (h.0 ++ n ∷ [], subst (λ m. AreThose P m (h.0 ++ n ∷ [])) next (those_more P n h.0 h.1 p))
    by (no q) h = (h.0, subst (λ m. AreThose P m h.0) next (those_skip P n h.0 h.1 q))
