-- The items of a database: its statements, block beginnings and ends, and inclusions of missing files (Metamath book, section 4.1.3).
use Rattle.std.specs.Prelude.{ℕ, ◌+◌, ◌||◌, Bool, true, false, if◌then◌else◌, Option, None, List, [], ◌∷◌, length, bytes_eq, slice_index_or, option_to_list}
use Rattle.std.specs.List.{list_any}

-- What an item is: `$c`, `$v`, `$d`, `$f`, `$e`, `$a`, `$p`, `${`, `$}`, or a missing file; `Passed` takes the place of a statement at
-- fault.
pub data Kind : Type 0 where
  Constants : Kind
  Variables : Kind
  Disjoint : Kind
  Floating : Kind
  Essential : Kind
  Axiom : Kind
  Theorem : Kind
  BlockStart : Kind
  BlockEnd : Kind
  Missing : Kind
  Passed : Kind

-- What an item says: its kind, its label if it has one, its symbols, and the words of its proof.
pub record Said : Type 0 where
  pub kind : Kind
  pub label : Option (List ℕ)
  pub symbols : List (List ℕ)
  pub proof : List (List ℕ)

-- what takes the place of a statement at fault
abbrev pub passed : Said
passed = record { kind = Passed; label = None; symbols = []; proof = [] }

-- the two kinds are the same
abbrev pub is_kind : Kind → Kind → Bool
is_kind Constants Constants = true
is_kind Variables Variables = true
is_kind Disjoint Disjoint = true
is_kind Floating Floating = true
is_kind Essential Essential = true
is_kind Axiom Axiom = true
is_kind Theorem Theorem = true
is_kind BlockStart BlockStart = true
is_kind BlockEnd BlockEnd = true
is_kind Missing Missing = true
is_kind Passed Passed = true
is_kind _ _ = false

-- the kind is one of these
abbrev pub is_one_of : List Kind → Kind → Bool
is_one_of kinds kind = list_any (λ one. is_kind one kind) kinds

-- a kind that declares symbols: `$c` or `$v`
abbrev pub is_declaring : Kind → Bool
is_declaring = is_one_of (Constants ∷ Variables ∷ [])

-- a kind that has a label: `$f`, `$e`, `$a` or `$p`
abbrev pub is_labelled : Kind → Bool
is_labelled = is_one_of (Floating ∷ Essential ∷ Axiom ∷ Theorem ∷ [])

-- a kind whose symbols are an expression, with a typecode in front: `$e`, `$a` or `$p`
abbrev pub is_expression : Kind → Bool
is_expression = is_one_of (Essential ∷ Axiom ∷ Theorem ∷ [])

-- a kind that is an assertion: `$a` or `$p`
abbrev pub is_assertion : Kind → Bool
is_assertion = is_one_of (Axiom ∷ Theorem ∷ [])

-- a kind whose symbols are read as an expression or as variables: `$f`, `$e`, `$a`, `$p` or `$d`
abbrev pub is_read : Kind → Bool
is_read kind = is_labelled kind || is_kind Disjoint kind

-- the name is one of these names
abbrev pub has : List (List ℕ) → List ℕ → Bool
has names name = list_any (bytes_eq name) names

-- the label of an item as a list, which is empty if the item has none
abbrev pub labels_of : Said → List (List ℕ)
labels_of item = if is_labelled item.kind then option_to_list item.label else []

-- the number of the word that is the first symbol. Words of a statement count from 0: the label if there is one, the keyword, the symbols
abbrev pub first_symbol : Said → ℕ
first_symbol item = length (labels_of item) + 1

-- the typecode, which is the first symbol; no bytes if there is none
abbrev pub typecode_of : Said → List ℕ
typecode_of item = slice_index_or item.symbols 0 []

-- the variable of a `$f`, which is the second symbol; no bytes if there is none
abbrev pub variable_of : Said → List ℕ
variable_of item = slice_index_or item.symbols 1 []

-- the item with this number; past the last one, `passed`, which is no statement
abbrev pub item_at : List Said → ℕ → Said
item_at items n = slice_index_or items n passed
