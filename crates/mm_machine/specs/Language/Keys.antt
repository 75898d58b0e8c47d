-- The numbers by which symbols are looked for, pairs in the order of these numbers, and symbols that are numbered in a table by them.
use Rattle.std.specs.Prelude.{◌≡◌, ℕ, ◌+◌, ◌*◌, ◌%◌, ◌≤◌, ◌<◌, ◌==◌, ◌||◌, leb, nat_lt, if◌then◌else◌, false, Some, List, [], ◌∷◌, length, slice_get, slice_index}
use Rattle.mm_machine.specs.Language.Frame.{Symbol}
use Rattle.mm_machine.specs.Language.NumberedSymbols.{comes_before}

-- the key after one byte more of a name
abbrev pub key_next : ℕ → ℕ → ℕ
key_next key byte = (key * 31 + byte) % 4294967296

-- the key after these bytes more of a name
abbrev pub key_from : ℕ → List ℕ → ℕ
key_from key [] = key
key_from key (byte ∷ bytes) = key_from (key_next key byte) bytes

-- the number of a symbol whose name is one number
abbrev pub key_by_number : Symbol → ℕ
key_by_number symbol = slice_index symbol.name 0

-- two numbers, the lower one first
abbrev pub lower_first : ℕ → ℕ → ℕ × ℕ
lower_first a b = if leb a b then (a, b) else (b, a)

-- the keys of the symbols of a pair, the lower one first
abbrev pub pair_keys : (Symbol → ℕ) → Symbol × Symbol → ℕ × ℕ
pair_keys key pair = lower_first (key pair.0) (key pair.1)

-- no pair comes before an earlier one of the list
abbrev pub AreInKeyOrder : (Symbol → ℕ) → List (Symbol × Symbol) → Type 0
AreInKeyOrder key pairs = (i j : ℕ) (p q : Symbol × Symbol) → i ≤ j → slice_get pairs i ≡ Some p → slice_get pairs j ≡ Some q
    → comes_before (pair_keys key q) (pair_keys key p) ≡ false

-- the place of a key in a table of this many places
abbrev pub home : ℕ → ℕ → ℕ
home key count = if nat_lt key count || (count == 0) then key else key % count

-- the place of a symbol in such a table
abbrev pub home_at : (Symbol → ℕ) → ℕ → Symbol → ℕ
home_at key count symbol = home (key symbol) count

-- for the key of each of the first symbols that the table has, it has the place of one with that key
abbrev pub AreKeyPlaces : (Symbol → ℕ) → List Symbol → List ℕ → ℕ → Type 0
AreKeyPlaces key xs places n = (i : ℕ) (x : Symbol) → i < n → slice_get xs i ≡ Some x → key x < length places →
    (slice_index places (key x) < n) × ((y : Symbol) × (slice_get xs (slice_index places (key x)) ≡ Some y) × (key y ≡ key x))

-- the variables are there once, and the table has for the key of each the number of one with this key
pub record AreNumbered (key : Symbol → ℕ) (all : List Symbol) (places : List ℕ) : Type 0 where
  pub once : (m n : ℕ) (v : Symbol) → slice_get all m ≡ Some v → slice_get all n ≡ Some v → m ≡ n
  pub table : AreKeyPlaces (home_at key (length places)) all places (length all)
