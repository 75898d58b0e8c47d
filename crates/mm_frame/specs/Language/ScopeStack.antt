-- A stack of scopes, the innermost first, as one reading from left to right keeps it.
use Rattle.std.specs.Prelude.{Bool, true, false, List, [], ◌∷◌, ◌++◌, filter}
use Rattle.mm_statement.specs.Language.Item.{Said}
use Rattle.mm_frame.specs.Language.Marks.{Mark, Opens, Closes, Neither, mark_of}

-- all that the scopes have, outermost first
abbrev pub all_of : List (List Said) → List Said
all_of [] = []
all_of (scope ∷ scopes) = all_of scopes ++ scope

-- a statement goes into the innermost scope
abbrev pub put : Said → List (List Said) → List (List Said)
put item [] = []
put item (scope ∷ scopes) = (scope ++ item ∷ []) ∷ scopes

-- the scopes around the innermost one
abbrev pub outer : List (List Said) → List (List Said)
outer [] = []
outer (scope ∷ scopes) = scopes

-- what an item makes of the stack
abbrev pub turn : Mark → Said → List (List Said) → List (List Said)
turn Opens item scopes = [] ∷ scopes
turn Closes item scopes = outer scopes
turn Neither item scopes = put item scopes

-- what the items make of the stack, one after another
abbrev pub read_scopes : List (List Said) → List Said → List (List Said)
read_scopes scopes [] = scopes
read_scopes scopes (item ∷ items) = read_scopes (turn (mark_of item.kind) item scopes) items

-- no `${` and no `$}`
abbrev pub is_statement_mark : Mark → Bool
is_statement_mark Neither = true
is_statement_mark _ = false

-- the items that are no `${` and no `$}`
abbrev pub statements : List Said → List Said
statements items = filter (λ item. is_statement_mark (mark_of item.kind)) items
