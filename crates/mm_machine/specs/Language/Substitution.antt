-- Substitution: each variable is replaced, all at once, and each constant is kept (Metamath book, section 4.1.4).
use Rattle.std.specs.Prelude.{if◌then◌else◌, List, [], ◌∷◌}
use Rattle.std.specs.List.{flat_map}
use Rattle.mm_machine.specs.Language.Frame.{Symbol}

-- what a substitution puts in the place of a symbol: its list for a variable; a constant stays
abbrev pub replacement : (Symbol → List Symbol) → Symbol → List Symbol
replacement given s = if s.variable then given s else (s ∷ [])

-- the substitution made: each variable replaced by its list, all at once
abbrev pub substituted : (Symbol → List Symbol) → List Symbol → List Symbol
substituted given symbols = flat_map (replacement given) symbols
