-- Lists of code as the definitions see them.
use Rattle.std.specs.Prelude.{ℕ, ◌-◌, List, map, take, drop}
use Rattle.mm_machine.specs.Language.Frame.{Symbol}

-- a pair of symbols of the code as the definitions see it
abbrev pub meant_pair : {S : Type 0} → (S → Symbol) → S × S → Symbol × Symbol
meant_pair means p = (means p.0, means p.1)

-- the pairs of the code as the definitions see them
abbrev pub meant_pairs : {S : Type 0} → (S → Symbol) → List (S × S) → List (Symbol × Symbol)
meant_pairs means ps = map (meant_pair means) ps

-- a list from one place up to another
abbrev pub range_of : {X : Type 0} → ℕ → ℕ → List X → List X
range_of first last xs = take (last - first) (drop first xs)
