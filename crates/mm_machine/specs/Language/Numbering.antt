-- The renaming that gives numbers their names: a name that is one number stands for the name with this number in a list.
use Rattle.std.specs.Prelude.{ℕ, ◌+◌, if◌then◌else◌, List, [], ◌∷◌, bytes_eq}
use Rattle.mm_machine.specs.Language.Frame.{Symbol}

-- the first two names exchanged in the third
abbrev pub exchanged : List ℕ → List ℕ → List ℕ → List ℕ
exchanged a b name = if bytes_eq name a then b else if bytes_eq name b then a else name

-- the number n gets the first of the names, and later numbers the others: each exchange leaves what those before it gave
abbrev pub named_from : ℕ → List (List ℕ) → List ℕ → List ℕ
named_from n [] number = number
named_from n (name ∷ names) number = exchanged (named_from (n + 1) names (n ∷ [])) name (named_from (n + 1) names number)

-- the same exchanges, the other way round
abbrev pub numbered_from : ℕ → List (List ℕ) → List ℕ → List ℕ
numbered_from n [] name = name
numbered_from n (first ∷ names) name = numbered_from (n + 1) names (exchanged (named_from (n + 1) names (n ∷ [])) first name)

-- the symbol by its name, if its name is its number
abbrev pub naming : List (List ℕ) → Symbol → Symbol
naming names s = record s { name = named_from 0 names s.name }

-- the symbol by its number, if it has one of the names
abbrev pub unnaming : List (List ℕ) → Symbol → Symbol
unnaming names s = record s { name = numbered_from 0 names s.name }
