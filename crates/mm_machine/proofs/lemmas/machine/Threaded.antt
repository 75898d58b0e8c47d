-- What decoding makes sure of, with the count of saves carried from step to step.
use Rattle.std.proofs.{Common.{◌≡◌, ℕ, zero, suc, ◌+◌, ◌<◌, cond, Some, List, [], ◌∷◌, take, refl, subst, arith, slice_get, count_by, add-zero, ◌↔◌}, lemmas.List.Sums.{sum_by-cons}}
use Rattle.std.proofs.lemmas.Grind.{common_steps}
use Rattle.mm_machine.specs.Language.{Frame.{Setting}, Expansion.{Step, Named, Saved}, Machine.{IsUsable, is_save, AreDecoded, AreDecodedAfter}}

-- what is made sure of a step after this many saves
abbrev Fits : Setting → ℕ → Step → Type 0
Fits place saves (Named label) = IsUsable (place.resolve label)
Fits place saves (Saved n) = n < saves
Fits place saves _ = Unit {0}

one_after : (place : Setting) (saves : ℕ) (x : Step) (steps : List Step) →
    AreDecodedAfter place saves (x ∷ steps) ↔ (Fits place saves x × AreDecodedAfter place (saves + cond (is_save x) 1 0) steps)
one_after place saves x steps = grind (arith, common_steps, add-zero) steps 200000

-- the count that is carried is the count
after_all : (place : Setting) (saves : ℕ) (steps : List Step) → AreDecodedAfter place saves steps → (n : ℕ) (x : Step) → slice_get steps n ≡ Some x →
    Fits place (saves + count_by is_save (take n steps)) x
after_all place saves [] d n x e = cc
after_all place saves (y ∷ steps) d zero x e = grind (arith, common_steps, add-zero, (one_after place saves y steps).0 d) steps 200000
after_all place saves (y ∷ steps) d (suc n) x e =
    let count : saves + cond (is_save y) 1 0 + count_by is_save (take n steps) ≡ saves + count_by is_save (y ∷ take n steps) =
    omega (arith, sum_by-cons (λ w. cond (is_save w) 1 0) y (take n steps)) in
    subst (λ k. Fits place k x) count (after_all place (saves + cond (is_save y) 1 0) steps ((one_after place saves y steps).0 d).1 n x e)

pub counted : (place : Setting) (steps : List Step) → AreDecodedAfter place 0 steps → AreDecoded place steps
counted place steps d = grind (arith, common_steps, after_all) steps 200000

thread : (place : Setting) (saves : ℕ) (steps : List Step) →
    ((n : ℕ) (x : Step) → slice_get steps n ≡ Some x → Fits place (saves + count_by is_save (take n steps)) x) → AreDecodedAfter place saves steps
thread place saves [] fits = tt
thread place saves (y ∷ steps) fits =
    (one_after place saves y steps).1 (
      subst (λ k. Fits place k y) (add-zero saves) (fits 0 y refl),
      thread place (saves + cond (is_save y) 1 0) steps (λ n x e.
          let count : saves + count_by is_save (y ∷ take n steps) ≡ saves + cond (is_save y) 1 0 + count_by is_save (take n steps) =
          omega (arith, sum_by-cons (λ w. cond (is_save w) 1 0) y (take n steps)) in
          subst (λ k. Fits place k x) count (fits (suc n) x e)),
    )

pub threaded : (place : Setting) (steps : List Step) → AreDecoded place steps → AreDecodedAfter place 0 steps
threaded place steps d = thread place 0 steps (λ n x e. grind (arith, common_steps, d.usable n, d.saved n) steps 200000)
