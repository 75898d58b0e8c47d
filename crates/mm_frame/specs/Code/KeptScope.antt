-- What a reader keeps of the items so far to judge the next one: their declarations, their blocks, and the typecode of each `$f`.
use Rattle.std.specs.Prelude.{◌≡◌, ◌||◌, ℕ, Bool, true, if◌then◌else◌, Some, List, [], ◌∷◌, ◌++◌, length, slice_get, slice_index_or}
use Rattle.mm_frame.specs.declared.scope.Scope.{Scope}
use Rattle.mm_statement.specs.Language.Item.{Said, Kind, passed, is_declaring, is_kind, Disjoint, Floating, typecode_of}
use Rattle.mm_frame.specs.Code.BlockMarks.{block_marks}
use Rattle.mm_frame.specs.Language.Sound.{IsSound, AreSound}
use Rattle.mm_frame.specs.Code.Numbers.{AreNameNumbers, IsNameNumber}
use Rattle.mm_frame.specs.Code.KeptTables.{Knows}

-- there is a number for each item, and that of a `$f` is the number of its typecode
pub record AreTypecodes (all : List (List ℕ)) (before : List Said) (typecodes : List ℕ) : Type 0 where
  pub count : length typecodes ≡ length before
  pub each : (i : ℕ) (item : Said) → slice_get before i ≡ Some item → is_kind Floating item.kind ≡ true
      → IsNameNumber all (slice_index_or typecodes i 0) (typecode_of item)

-- the scope is that after these items, by the numbers of names in the list of all
pub record ScopeHolds (all : List (List ℕ)) (before : List Said) (scope : Scope) : Type 0 where
  pub knows : Knows all before scope.tables
  pub marks : scope.blocks ≡ block_marks before
  pub types : AreTypecodes all before scope.typecodes.items

-- what is kept of an item: the item if it is sound, and else what takes its place
abbrev pub taken : Bool → Said → Said
taken sound item = if sound then item else passed

-- the numbers of the symbols of a statement of this kind are needed: of a `$c`, `$v`, `$d` or `$f`
abbrev pub uses_numbers : Kind → Bool
uses_numbers kind = is_declaring kind || is_kind Floating kind || is_kind Disjoint kind

-- the scope takes one more item, whose symbols have these numbers, and which is sound if the flag says it is
abbrev pub ScopeTakes : List ℕ → Scope → Said → Bool → Scope → Type 0
ScopeTakes numbers old item sound new = (all : List (List ℕ)) (before : List Said) → AreSound before → ScopeHolds all before old
    → (sound ≡ true → IsSound before item) → (uses_numbers item.kind ≡ true → AreNameNumbers all numbers item.symbols)
    → ScopeHolds all (before ++ taken sound item ∷ []) new
