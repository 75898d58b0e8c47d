-- Lines and columns, counted from 1. A line feed ends a line, and is its last column.
use Rattle.std.specs.Prelude.{ℕ, ◌+◌, ◌==◌, Bool, List, length, take, count_by}
use Rattle.std.specs.List.{after_last}

-- a line feed, byte 10
abbrev pub is_line_feed : ℕ → Bool
is_line_feed b = b == 10

-- the line of a byte, from 1: one more than there are line feeds before it
abbrev pub line_at : List ℕ → ℕ → ℕ
line_at text at = count_by is_line_feed (take at text) + 1

-- the column of a byte, from 1: one more than the number of bytes between it and the last line feed before it, or the beginning of the text
abbrev pub column_at : List ℕ → ℕ → ℕ
column_at text at = length (after_last is_line_feed (take at text)) + 1
