-- Names, as the code keeps them.
use Rattle.std.specs.Prelude.{◌≡◌, ℕ, true, Some, List, All, map, slice_get, bytes_eq}
use Rattle.std.specs.List.{IsDistinct}
use Rattle.mm_frame.specs.Code.Codes.{bytes_code, is_coded}
use Rattle.mm_frame.specs.declared.names.{Found.{Found}, Names.TheInside.{Inside}}

abbrev pub names_inside : Inside → List (List ℕ)
names_inside inside = map (λ name. name.items) inside.names.keys

-- among these names the number is that of the name with the code, if any bytes have it
abbrev pub IsFoundIn : List (List ℕ) → ℕ → ℕ → Type 0
IsFoundIn names code n = (name : List ℕ) → is_coded name ≡ true → bytes_code name ≡ code → slice_get names n ≡ Some name

-- no two keys are equal, and what was found is so
pub record AreKept (inside : Inside) : Type 0 where
  pub once : IsDistinct (λ x y. bytes_eq x.items y.items) inside.names.keys
  pub found : All (λ (found : Found). IsFoundIn (names_inside inside) found.code found.number) inside.found.items
