use Rattle.std.{proofs.{Common.{List, Some, arith, inl, inr, refl, slice_get, subst, suc, zero, ℕ, ◌++◌, ◌∷◌, ◌≡◌, []}, lemmas.Grind.{elements}}, specs.List.{AllZip}}
use Rattle.mm_machine.specs.Language.Faults.{AnyZip}

-- Two lists, element by element.

-- what is beside an element
pub zip_at : {A B : Type 0} (R : A → B → Type 0) (xs : List A) (ys : List B) (n : ℕ) (x : A) → AllZip R xs ys → slice_get xs n ≡ Some x → (y : B) × (slice_get ys n ≡ Some y) × R x y
zip_at R [] [] n x a e = cc
zip_at R (w ∷ xs) (z ∷ ys) zero x a e = let f : w ≡ x = cc in (z, refl, subst (λ v. R v z) f a.0)
zip_at R (w ∷ xs) (z ∷ ys) (suc n) x a e = zip_at R xs ys n x a.1 e
zip_at R _ _ n x a e = absurd a

pub both_joined : {A B : Type 0} (R : A → B → Type 0) (xs ys : List A) (zs ws : List B) → AllZip R xs zs → AllZip R ys ws → AllZip R (xs ++ ys) (zs ++ ws)
both_joined R [] ys [] ws a b = b
both_joined R (x ∷ xs) ys (z ∷ zs) ws a b = (a.0, both_joined R xs ys zs ws a.1 b)
both_joined R _ ys _ ws a b = absurd a

pub flipped : {A B : Type 0} (R : A → B → Type 0) (S : B → A → Type 0) (xs : List A) (ys : List B) → ((x : A) (y : B) → R x y → S y x) → AllZip R xs ys →
    AllZip S ys xs
flipped R S (x ∷ xs) (y ∷ ys) f a = (f x y a.0, flipped R S xs ys f a.1)
flipped R S [] [] f a = a
flipped R S _ _ f a = absurd a

-- some place at which it holds
pub any_at : {A B : Type 0} (R : A → B → Type 0) (xs : List A) (ys : List B) (k : ℕ) (x : A) (y : B) → slice_get xs k ≡ Some x → slice_get ys k ≡ Some y → R x y → AnyZip R xs ys
any_at R (a ∷ xs) (b ∷ ys) zero x y e f r = grind (arith, elements) steps 200000
any_at R (a ∷ xs) (b ∷ ys) (suc k) x y e f r = inr (any_at R xs ys k x y e f r)
any_at R _ _ k x y e f r = cc

pub any_place : {A B : Type 0} (R : A → B → Type 0) (xs : List A) (ys : List B) → AnyZip R xs ys → (k : ℕ) × (x : A) × (y : B) × (slice_get xs k ≡ Some x)
    × (slice_get ys k ≡ Some y) × R x y
any_place R (x ∷ xs) (y ∷ ys) (inl r) = (0, x, y, refl, refl, r)
any_place R (x ∷ xs) (y ∷ ys) (inr a) = let p = any_place R xs ys a in (suc p.0, p.1, p.2, p.3, p.4, p.5)
any_place R _ _ a = absurd a
