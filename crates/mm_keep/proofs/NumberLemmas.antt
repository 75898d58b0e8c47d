-- Two rising lists of numbers with the same members are one.
use Rattle.std.proofs.{lemmas.{Grind.{common_steps}, List.Elements.{recursion_from_All}}, Common.{◌≡◌, ◌⊎◌, ℕ, suc, ◌<◌, List, [], ◌∷◌, refl, sym, inl, inr, arith, Contains, AllPairs}}
use Rattle.std.specs.List.{AllByRecursion}
use Rattle.mm_keep.proofs.DecidingLemmas.{first_of_list, later_of_list, member_cases}

-- each number is below each later one
abbrev Rises : List ℕ → Type 0
Rises [] = Unit {0}
Rises (x ∷ xs) = AllByRecursion (λ n. x < n) xs × Rises xs

rises : (xs : List ℕ) → AllPairs (λ m n. m < n) xs → Rises xs
rises [] f = tt
rises (x ∷ xs) f = (recursion_from_All (λ n. x < n) xs (λ j d h. f 0 (suc j) d (omega arith) (omega arith)), rises xs (λ i j d l h. f (suc i) (suc j) d (omega arith) (omega arith)))

above : (x k : ℕ) (xs : List ℕ) → AllByRecursion (λ n. x < n) xs → Contains xs k → x < k
above x k xs f h = grind (arith, common_steps) steps 200000

-- a later one is a member of the rest
past : (k m n : ℕ) (zs : List ℕ) → m < k → m ≡ n → (n ≡ k) ⊎ Contains zs k → Contains zs k
past k m n zs l e h = grind (arith, common_steps) steps 200000

one_by_rising : (xs ys : List ℕ) → Rises xs → Rises ys → ((k : ℕ) → Contains xs k → Contains ys k) → ((k : ℕ) → Contains ys k → Contains xs k) → xs ≡ ys
one_by_rising [] [] f g to from = refl
one_by_rising [] (y ∷ ys) f g to from = absurd (let h = from y (first_of_list y ys) in omega (arith, h.1))
one_by_rising (x ∷ xs) [] f g to from = absurd (let h = to x (first_of_list x xs) in omega (arith, h.1))
one_by_rising (x ∷ xs) (y ∷ ys) f g to from =
    let same : x ≡ y = first (member_cases y x ys (to x (first_of_list x xs))) (member_cases x y xs (from y (first_of_list y ys))) in
    let rest : xs ≡ ys = one_by_rising xs ys f.1 g.1 (λ k h. past k x y ys (above x k xs f.0 h) same (member_cases y k ys (to k (later_of_list x k xs h))))
    (λ k h. past k y x xs (above y k ys g.0 h) (sym same) (member_cases x k xs (from k (later_of_list y k ys h)))) in
    cc where
      first : (y ≡ x) ⊎ Contains ys x → (x ≡ y) ⊎ Contains xs y → x ≡ y
      first (inl e) h = sym e
      first (inr h) (inl e) = e
      first (inr h) (inr k) = let l : y < x = above y x ys g.0 h in let m : x < y = above x y xs f.0 k in absurd (omega arith)

pub one_rising : (xs ys : List ℕ) → AllPairs (λ m n. m < n) xs → AllPairs (λ m n. m < n) ys → ((k : ℕ) → Contains xs k → Contains ys k) → ((k : ℕ) → Contains ys k → Contains xs k) → xs ≡ ys
one_rising xs ys f g to from = one_by_rising xs ys (rises xs f) (rises ys g) to from
