-- Scopes: what is declared, and what is active after a list of items (Metamath book, section 4.2.8).
use Rattle.std.specs.Prelude.{ℕ, suc, pred, Bool, ◌&&◌, if◌then◌else◌, ltb, ◌==◌, List, [], ◌∷◌, filter, map, flat_map, count_by}
use Rattle.mm_statement.specs.Language.Item.{Kind, BlockStart, BlockEnd, Said, is_kind, Constants, Floating, Variables, labels_of, variable_of}

-- the item is a `${`
abbrev pub is_start : Said → Bool
is_start item = is_kind BlockStart item.kind

-- the item is a `$}`
abbrev pub is_end : Said → Bool
is_end item = is_kind BlockEnd item.kind

-- how many of the blocks that were open before these items they close: a `$}` closes one, unless a `${` among them has opened it
abbrev pub closed : List Said → ℕ
closed [] = 0
closed (item ∷ items) = if is_start item then pred (closed items) else if is_end item then suc (closed items) else closed items

-- these items close no block that was open before them: a statement right before them is still active after them
-- In words: `stays_by_counts`: Items close no block that was open before them exactly when no beginning of them has more `$}` than `${`.
abbrev pub stays : List Said → Bool
stays items = closed items == 0

-- the items that are active at the end of the list: those whose blocks are all open still (4.2.8)
-- In words: `active_by_blocks`: A statement is active at a later one exactly when each block that holds it holds the later one.
abbrev pub active : List Said → List Said
active [] = []
active (item ∷ items) = if stays items then item ∷ active items else active items

-- the numbers of the items that are active at the end of the list and pass a test; the first item has this number
abbrev pub active_numbers_from : (Said → Bool) → ℕ → List Said → List ℕ
active_numbers_from test n [] = []
active_numbers_from test n (item ∷ items) =
    if stays items && test item then n ∷ active_numbers_from test (suc n) items
    else active_numbers_from test (suc n) items

-- the numbers, from 0, of the items that are active at the end of the list and pass a test
abbrev pub active_numbers : (Said → Bool) → List Said → List ℕ
active_numbers test items = active_numbers_from test 0 items

-- a block is open at the end: there are more `${` than `$}`
abbrev pub is_inside : List Said → Bool
is_inside items = ltb (count_by is_end items) (count_by is_start items)

-- the symbols of those items whose kind passes a test
abbrev pub symbols_by : (Kind → Bool) → List Said → List (List ℕ)
symbols_by test items = flat_map (λ item. if test item.kind then item.symbols else []) items

-- the constants that are declared
abbrev pub constants : List Said → List (List ℕ)
constants items = symbols_by (is_kind Constants) items

-- the variables that are declared, active or not
abbrev pub variables : List Said → List (List ℕ)
variables items = symbols_by (is_kind Variables) items

-- the labels of the items, active or not
abbrev pub labels : List Said → List (List ℕ)
labels items = flat_map labels_of items

-- the variables that are active at the end of the list
abbrev pub active_variables : List Said → List (List ℕ)
active_variables items = variables (active items)

-- the `$f` among the items
abbrev pub floats : List Said → List Said
floats items = filter (λ item. is_kind Floating item.kind) items

-- the variables that have an active `$f` at the end of the list
abbrev pub typed : List Said → List (List ℕ)
typed items = map variable_of (floats (active items))
