-- Lists that are the same element by element, and readings of numbers that are the same.
use Rattle.std.proofs.{Common.{rules, ◌≡◌, ℕ, suc, ◌+◌, ◌<◌, Bool, true, false, ◌&&◌, Some, List, [], ◌∷◌, length, map, slice_get, refl, arith, All}, lemmas.{Grind.{common_steps}, Bool.{false≢true}}}
use Rattle.std.{proofs.lemmas.Option.{slice_get-get_or}, specs.Bool.{Decides}}
use Rattle.mm_machine.specs.{declared.symbol.NumberedSymbol.{NumberedSymbol}, Language.{Names.{AreDistinct}, NumberedSymbols.{symbol_of, symbols_of, pair_of, kept_pairs, IsNumbered, IsPairNumbered}}}

-- under these functions, this many elements of two lists are the same
abbrev pub AreSameTo : {X Y Z : Type 0} → (X → Z) → (Y → Z) → List X → List Y → ℕ → Type 0
AreSameTo {X} {Y} f g xs ys k = (m : ℕ) (x : X) (y : Y) → m < k → slice_get xs m ≡ Some x → slice_get ys m ≡ Some y → f x ≡ g y

-- the elements at one place
pub same_more : {X Y Z : Type 0} (f : X → Z) (g : Y → Z) (xs : List X) (ys : List Y) (k : ℕ) (x : X) (y : Y) → AreSameTo f g xs ys k → slice_get xs k ≡ Some x → slice_get ys k ≡ Some y → f x ≡ g y → AreSameTo f g xs ys (k + 1)
same_more {X} {Y} f g xs ys k x y h p q e n v w b c d = grind (arith, common_steps) steps 200000

pub same_whole : {X Y Z : Type 0} (f : X → Z) (g : Y → Z) (xs : List X) (ys : List Y) → AreSameTo f g xs ys (length xs) → length xs ≡ length ys → map f xs ≡ map g ys
same_whole f g [] [] h l = refl
same_whole f g (x ∷ xs) (y ∷ ys) h l =
    λ i. (h 0 x y (omega arith) refl refl) i ∷ (same_whole f g xs ys (λ m v w n c d. h (suc m) v w (omega arith) c d) (omega arith)) i
same_whole f g _ _ h l = absurd (omega arith)

-- equal readings have equal numbers
number_from_reading : (all : List (List ℕ)) → AreDistinct all → (x y : NumberedSymbol) → IsNumbered all x → IsNumbered all y → symbol_of all x ≡ symbol_of all y → x ≡ y
number_from_reading all distinct x y p q e = search (rules, slice_get-get_or all x.name [] p, slice_get-get_or all y.name [] q)

pub numbers_from_readings : (all : List (List ℕ)) → AreDistinct all → (xs ys : List NumberedSymbol) → All (IsNumbered all) xs → All (IsNumbered all) ys → symbols_of all xs ≡ symbols_of all ys → xs ≡ ys
numbers_from_readings all distinct [] [] p q e = refl
numbers_from_readings all distinct (x ∷ xs) (y ∷ ys) p q e =
    search (rules, numbers_from_readings all distinct xs ys (λ k d h. p (suc k) d (omega (arith, h))) (λ k d h. q (suc k) d (omega (arith, h))) cc, number_from_reading all distinct x y (p 0 x (omega arith)) (q 0 y (omega arith)) cc)
numbers_from_readings all distinct _ _ p q e = cc

pub pair_from_reading : (all : List (List ℕ)) → AreDistinct all → (x y : NumberedSymbol × NumberedSymbol) → IsPairNumbered all x → IsPairNumbered all y → pair_of all x ≡ pair_of all y → x ≡ y
pair_from_reading all distinct x y m n e = grind (arith, common_steps, number_from_reading) steps 200000

pub pairs_from_readings : (all : List (List ℕ)) → AreDistinct all → (xs ys : List (NumberedSymbol × NumberedSymbol)) → All (IsPairNumbered all) xs → All (IsPairNumbered all) ys → kept_pairs all xs ≡ kept_pairs all ys → xs ≡ ys
pairs_from_readings all distinct [] [] p q e = refl
pairs_from_readings all distinct (x ∷ xs) (y ∷ ys) p q e =
    search (rules, pairs_from_readings all distinct xs ys (λ k d h. p (suc k) d (omega (arith, h))) (λ k d h. q (suc k) d (omega (arith, h))) cc, pair_from_reading all distinct x y (p 0 x (omega arith)) (q 0 y (omega arith)) cc)
pairs_from_readings all distinct _ _ p q e = cc

-- two tests together
pub both_decide : {P Q : Type 0} (p q : Bool) → Decides p P → Decides q Q → Decides (p && q) (P × Q)
both_decide true true p q = (λ t. (p.0 refl, q.0 refl), λ e. refl)
both_decide true false p q = (λ t. absurd (false≢true t), λ e. absurd (false≢true (q.1 e.1)))
both_decide false r p q = (λ t. absurd (false≢true t), λ e. absurd (false≢true (p.1 e.0)))
