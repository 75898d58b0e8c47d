-- What is left of the numbers of active items after the end of a block.
use Rattle.std.specs.Prelude.{◌≡◌, ℕ, ◌+◌, true, false, List, [], ◌∷◌, ◌++◌, drop, Contains}
use Rattle.mm_frame.specs.Language.Marks.{Mark}
use Rattle.mm_frame.specs.Code.BlockMarks.{stays_by}
use Rattle.mm_frame.specs.declared.active_numbers.ActiveNumbers.TheInside.{Inside}

abbrev pub numbers_inside : Inside → List ℕ
numbers_inside inside = inside.numbers.items

-- what is gone was last and is active no more, and the last number that is left is that of an active item
pub record IsPruned (marks : List Mark) (old new : List ℕ) : Type 0 where
  pub dropped : List ℕ
  pub parts : old ≡ new ++ dropped
  pub ended : (n : ℕ) → Contains dropped n → stays_by (drop (n + 1) marks) ≡ false
  pub last : (front : List ℕ) (n : ℕ) → new ≡ front ++ n ∷ [] → stays_by (drop (n + 1) marks) ≡ true
