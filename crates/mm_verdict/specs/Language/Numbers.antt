-- Numbers of compressed proofs: digits `U` to `Y`, worth 1 to 5, and a last letter `A` to `T`, worth 1 to 20 (Metamath book, Appendix B).
use Rattle.std.specs.Prelude.{ℕ, ◌+◌, ◌-◌, ◌*◌, ◌^◌, Bool, ◌&&◌, nat_le, List, [], ◌∷◌, length, map}

-- a letter that is a digit of a number: `U` to `Y`
abbrev pub is_digit : ℕ → Bool
is_digit byte = nat_le 85 byte && nat_le byte 89

-- a letter that ends a number: `A` to `T`
abbrev pub is_last : ℕ → Bool
is_last byte = nat_le 65 byte && nat_le byte 84

-- what a digit is worth: 1 for `U`, 5 for `Y`
abbrev pub digit_worth : ℕ → ℕ
digit_worth byte = byte - 84

-- what a last letter is worth: 1 for `A`, 20 for `T`
abbrev pub last_worth : ℕ → ℕ
last_worth byte = byte - 64

-- numbers as digits in base five, the first one the highest
abbrev pub in_base_five : List ℕ → ℕ
in_base_five [] = 0
in_base_five (d ∷ ds) = d * 5 ^ length ds + in_base_five ds

-- the number that these digits and this last letter write: twenty times the digits in base five, and the last letter
abbrev pub value_of : List ℕ → ℕ → ℕ
value_of digits last = 20 * in_base_five (map digit_worth digits) + last_worth last
