-- The numbers by which symbols by name are looked for, and those of symbols by number.
use Rattle.std.specs.Prelude.{◌≡◌, ℕ}
use Rattle.mm_machine.specs.Language.Frame.{Symbol}
use Rattle.mm_machine.specs.Language.Keys.{key_by_number, key_from}

-- the number of a symbol by the bytes of its name
abbrev pub key_by_name : Symbol → ℕ
key_by_name symbol = key_from 0 symbol.name

-- the key of a symbol by the bytes of its name is the number that its name is
abbrev pub HasOneKey : Symbol → Type 0
HasOneKey symbol = key_by_name symbol ≡ key_by_number symbol
