-- Lists to which a loop adds what each element of another one gives.
use Rattle.std.proofs.{Common.{◌≡◌, ℕ, ◌+◌, ◌<◌, List, [], ◌∷◌, ◌++◌, length, map, flat_map, take, get_or, sym, ◌∙◌, ap, append_assoc, append-nil}, lemmas.Grind.{flat_map-append}}
use Rattle.std.proofs.lemmas.List.{map_more, take_more}

-- one thing for one more element
pub map_grows : {X Y : Type 0} (f : X → Y) (xs : List X) (n : ℕ) (d : X) (front old new : List Y) → n < length xs
    → old ≡ front ++ map f (take n xs) → new ≡ old ++ f (get_or xs n d) ∷ [] → new ≡ front ++ map f (take (n + 1) xs)
map_grows f xs n d front old new there so_far step = step ∙ ap (λ w. w ++ f (get_or xs n d) ∷ []) so_far ∙ append_assoc front (map f (take n xs)) (f (get_or xs n d) ∷ []) ∙ ap (λ w. front ++ w) (sym (map_more f xs n d there))

-- what one more element gives
pub flat_map_more : {X Y : Type 0} (f : X → List Y) (xs : List X) (n : ℕ) (d : X) → n < length xs → flat_map f (take (n + 1) xs) ≡ flat_map f (take n xs) ++ f (get_or xs n d)
flat_map_more f xs n d there = ap (flat_map f) (take_more xs n d there) ∙ flat_map-append f (take n xs) (get_or xs n d ∷ []) ∙ ap (λ w. flat_map f (take n xs) ++ w) (append-nil (f (get_or xs n d)))

pub flat_map_grows : {X Y : Type 0} (f : X → List Y) (xs : List X) (n : ℕ) (d : X) (front old new : List Y) → n < length xs
    → old ≡ front ++ flat_map f (take n xs) → new ≡ old ++ f (get_or xs n d) → new ≡ front ++ flat_map f (take (n + 1) xs)
flat_map_grows f xs n d front old new there so_far step = step ∙ ap (λ w. w ++ f (get_or xs n d)) so_far ∙ append_assoc front (flat_map f (take n xs)) (f (get_or xs n d)) ∙ ap (λ w. front ++ w) (sym (flat_map_more f xs n d there))
