-- Numbers that some items have, as the code keeps them: one more than the number, or 0.
use Rattle.std.specs.Prelude.{ℕ, zero, suc, Option, Some, None, List, map, slice_index_or}
use Rattle.mm_frame.specs.declared.sparse.Sparse.TheInside.{Inside}

-- the number that is written as one more, if one is
abbrev pub number_of : ℕ → Option ℕ
number_of zero = None
number_of (suc n) = Some n

-- the number of each item, if it has one
abbrev pub numbers_inside : Inside → List (Option ℕ)
numbers_inside inside = map number_of inside.codes.items

-- the value of the item with this number, if there is such an item and it has one
abbrev pub value_kept : {X : Type 0} → List (Option X) → ℕ → Option X
value_kept values n = slice_index_or values n None
