-- The words of a proof that are left when the code reads them one by one.
use Rattle.std.specs.Prelude.{◌≡◌, ℕ, ◌+◌, List, length, drop}

-- these words of a proof are left after the first n
pub record AreLeft (all left : List (List ℕ)) (n : ℕ) : Type 0 where
  pub are : left ≡ drop n all
  pub count : n + length left ≡ length all
