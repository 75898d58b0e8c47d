-- What a reader looks up by number: the last item that declares a name, types it or carries it as a label, and whether that one
-- item is active (Metamath book, section 4.2).
use Rattle.std.specs.Prelude.{◌≡◌, ℕ, suc, ◌<◌, ◌⊎◌, Bool, true, false, not, ◌&&◌, if◌then◌else◌, Option, Some, None, List, [], ◌∷◌, drop, bytes_eq, Contains}
use Rattle.std.specs.Prelude.{AllPairs}
use Rattle.mm_statement.specs.Language.Item.{Kind, Passed, Said, item_at, is_kind, Disjoint, Essential, Floating, Variables, has, labels_of, typecode_of}
use Rattle.mm_statement.specs.Language.Item.{variable_of}
use Rattle.mm_frame.specs.Language.Scope.{stays, active_numbers}
use Rattle.mm_frame.specs.Language.Marks.{Neither, mark_of}
use Rattle.mm_frame.specs.Language.Framing.{mandatory_variables}

-- the number one further, or else 0 if the first item passes
abbrev pub number_or_first : Option ℕ → Bool → Option ℕ
number_or_first (Some n) passes = Some (suc n)
number_or_first None passes = if passes then Some 0 else None

-- the number of the last item that passes a test
abbrev pub last_where : (Said → Bool) → List Said → Option ℕ
last_where test [] = None
last_where test (item ∷ items) = number_or_first (last_where test items) (test item)

-- the item with this number is active after the items; a number past the last item counts as active
abbrev pub is_active_at : List Said → ℕ → Bool
is_active_at items n = stays (drop (suc n) items)

-- there is a number, and its item is active after the items
abbrev pub is_active_last : List Said → Option ℕ → Bool
is_active_last items None = false
is_active_last items (Some n) = is_active_at items n

-- the item is a `$v` that declares this name
abbrev pub declares_variable : List ℕ → Said → Bool
declares_variable name item = is_kind Variables item.kind && has item.symbols name

-- the item is a `$f` of this variable
abbrev pub types : List ℕ → Said → Bool
types name item = is_kind Floating item.kind && bytes_eq (variable_of item) name

-- the item has this label
abbrev pub carries : List ℕ → Said → Bool
carries label item = has (labels_of item) label

-- there is a number, and the typecode of its item is another than that of this item
abbrev pub is_otherwise_at : List Said → Said → Option ℕ → Bool
is_otherwise_at items item None = false
is_otherwise_at items item (Some n) = not (bytes_eq (typecode_of (item_at items n)) (typecode_of item))

-- a sort of items: none that opens or closes a block, and none that takes the place of a statement at fault
pub record IsSort (test : Kind → Bool) : Type 0 where
  pub statement : (kind : Kind) → test kind ≡ true → mark_of kind ≡ Neither
  pub sound : test Passed ≡ false

-- the item is a `$e`
abbrev pub is_essential_item : Said → Bool
is_essential_item item = is_kind Essential item.kind

-- the item is a `$d`
abbrev pub is_disjoint_item : Said → Bool
is_disjoint_item item = is_kind Disjoint item.kind

-- the number is that of an active `$e`, or of the last `$f` of a mandatory variable
abbrev pub IsHypothesisNumber : List Said → Said → ℕ → Type 0
IsHypothesisNumber before item n =
    Contains (active_numbers is_essential_item before) n
    ⊎ ((name : List ℕ) × Contains (mandatory_variables before item) name × (last_where (types name) before ≡ Some n))

-- each number is less than each later one
abbrev pub IsRising : List ℕ → Type 0
IsRising numbers = AllPairs (λ m n. m < n) numbers
