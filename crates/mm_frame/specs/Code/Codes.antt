-- Short names and labels as numbers.
use Rattle.std.specs.Prelude.{ℕ, ◌+◌, ◌*◌, Bool, true, ◌&&◌, nat_le, nat_lt, List, [], ◌∷◌, length}

-- each byte is less than 128
abbrev pub are_ascii : List ℕ → Bool
are_ascii [] = true
are_ascii (byte ∷ bytes) = nat_lt byte 128 && are_ascii bytes

-- the number whose digits to the base 128 are these bytes, the first one the lowest, with a 1 on top
abbrev pub bytes_code : List ℕ → ℕ
bytes_code [] = 1
bytes_code (byte ∷ bytes) = bytes_code bytes * 128 + byte

-- the bytes have a code, of 64 bits at most
abbrev pub is_coded : List ℕ → Bool
is_coded bytes = nat_le (length bytes) 9 && are_ascii bytes
