-- Numbers that stand for names in a list of all names.
use Rattle.std.specs.Prelude.{◌≡◌, ℕ, List, [], Option, Some, length, slice_get, slice_index_or, position, bytes_eq}

-- the number of a name, if it is there
abbrev pub number_in : List (List ℕ) → List ℕ → Option ℕ
number_in all name = position (bytes_eq name) all

-- the number is that of the name
abbrev pub IsNameNumber : List (List ℕ) → ℕ → List ℕ → Type 0
IsNameNumber all n name = slice_get all n ≡ Some name

-- the numbers are those of the names, one by one
pub record AreNameNumbers (all : List (List ℕ)) (numbers : List ℕ) (names : List (List ℕ)) : Type 0 where
  pub count : length numbers ≡ length names
  pub each : (i n : ℕ) → slice_get numbers i ≡ Some n → IsNameNumber all n (slice_index_or names i [])
