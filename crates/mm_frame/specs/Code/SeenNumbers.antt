-- The numbers that a reader has seen in a statement.
use Rattle.std.specs.Prelude.{◌≡◌, ℕ, Bool, List, nat_eq}
use Rattle.std.specs.List.{list_any}
use Rattle.std.specs.HashSet.{HashSet, contains_by}

-- the number is one of these numbers
abbrev pub has_number : List ℕ → ℕ → Bool
has_number numbers number = list_any (nat_eq number) numbers

-- the set has these numbers, and no others
abbrev pub HasSeen : {S : Type 0} → List ℕ → HashSet ℕ S → Type 0
HasSeen numbers seen = (number : ℕ) → contains_by (nat_eq number) seen ≡ has_number numbers number
