-- Lists of names that are given by their numbers, and that grow.
use Rattle.std.specs.Prelude.{◌≡◌, ℕ, List, [], Some, slice_get, slice_index_or}

-- no name is in the list twice
abbrev pub AreDistinct : List (List ℕ) → Type 0
AreDistinct names = (i j : ℕ) (name : List ℕ) → slice_get names i ≡ Some name → slice_get names j ≡ Some name → i ≡ j

-- the second list begins with the names of the first
abbrev pub Begins : List (List ℕ) → List (List ℕ) → Type 0
Begins old new = (n : ℕ) (name : List ℕ) → slice_get old n ≡ Some name → slice_get new n ≡ Some name

-- the name with a number; no bytes if there is none
abbrev pub name_at : List (List ℕ) → ℕ → List ℕ
name_at names n = slice_index_or names n []
