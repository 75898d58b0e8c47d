-- The ends of blocks by their numbers.
use Rattle.std.specs.Prelude.{ℕ, Option, None, List, slice_index_or}

-- the item that ended the block, if one did
abbrev pub end_of_block : List (Option ℕ) → ℕ → Option ℕ
end_of_block ends block = slice_index_or ends block None
