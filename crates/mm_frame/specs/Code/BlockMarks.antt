-- Blocks and activity by what each item does to the blocks, and by nothing else of it.
use Rattle.std.specs.Prelude.{ℕ, zero, suc, pred, Bool, true, false, ltb, List, [], ◌∷◌, map, count_by}
use Rattle.mm_statement.specs.Language.Item.{Said}
use Rattle.mm_frame.specs.Language.Marks.{Mark, Opens, Closes, Neither, mark_of}

-- the mark opens a block
abbrev pub opens : Mark → Bool
opens Opens = true
opens _ = false

-- the mark closes a block
abbrev pub closes : Mark → Bool
closes Closes = true
closes _ = false

-- how many blocks open before a mark are closed by it and those after it, if those after it close this many that were open before them
abbrev pub closed_at : Mark → ℕ → ℕ
closed_at Opens count = pred count
closed_at Closes count = suc count
closed_at Neither count = count

-- the count is zero
abbrev pub is_zero : ℕ → Bool
is_zero zero = true
is_zero (suc count) = false

-- how many of the blocks that were open before them the marks close
abbrev pub closed_by : List Mark → ℕ
closed_by [] = zero
closed_by (mark ∷ marks) = closed_at mark (closed_by marks)

-- the marks close no block that was open before them
abbrev pub stays_by : List Mark → Bool
stays_by marks = is_zero (closed_by marks)

-- what each of the items does to the blocks
abbrev pub block_marks : List Said → List Mark
block_marks items = map (λ item. mark_of item.kind) items

-- a block is open at the end
abbrev pub is_inside_by : List Mark → Bool
is_inside_by marks = ltb (count_by closes marks) (count_by opens marks)
