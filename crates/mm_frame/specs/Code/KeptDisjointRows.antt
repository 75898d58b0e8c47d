-- What the code keeps of the sound `$d` so far: for each variable, by the number of its name, the numbers of those that have it.
use Rattle.std.specs.Prelude.{◌≡◌, ℕ, suc, true, Option, Some, None, List, [], ◌∷◌, ◌++◌, drop, slice_get, Contains, Vec}
use Rattle.std.specs.Global.{Global}
use Rattle.mm_frame.specs.declared.disjoint_rows.DisjointRows.{DisjointRows}
use Rattle.mm_statement.specs.Language.Item.{Said, is_kind, Disjoint, has}
use Rattle.mm_machine.specs.Language.Names.{AreDistinct}
use Rattle.mm_frame.specs.Language.Marks.{Mark}
use Rattle.mm_frame.specs.Language.Sound.{AreSound}
use Rattle.mm_frame.specs.Code.BlockMarks.{stays_by, block_marks}
use Rattle.mm_frame.specs.Code.KeptActive.{IsPruned}
use Rattle.mm_frame.specs.Code.LastItems.{IsRising, is_active_at}
use Rattle.mm_frame.specs.Code.Numbers.{IsNameNumber}

-- the numbers of a row: none if there is no row
abbrev pub numbers_or_none : Option (Vec ℕ Global) → List ℕ
numbers_or_none None = []
numbers_or_none (Some row) = row.items

-- the numbers that are kept for the name with a number
abbrev pub row_at : DisjointRows → ℕ → List ℕ
row_at table n = numbers_or_none (slice_get table.rows.items n)

-- a number is added after those of one row that are left, and nothing else changes
pub record Puts (old : DisjointRows) (marks : List Mark) (name number : ℕ) (new : DisjointRows) : Type 0 where
  pub left : List ℕ
  pub pruned : IsPruned marks (row_at old name) left
  pub here : row_at new name ≡ left ++ number ∷ []
  pub others : (n : ℕ) → (n ≡ name → ⊥) → row_at new n ≡ row_at old n

-- the number is added to each of these rows, and nothing else changes
pub record PutsAll (old : DisjointRows) (marks : List Mark) (names : List ℕ) (number : ℕ) (new : DisjointRows) : Type 0 where
  pub each : (n : ℕ) → Contains names n → (left : List ℕ) × IsPruned marks (row_at old n) left × (row_at new n ≡ left ++ number ∷ [])
  pub others : (n : ℕ) → (Contains names n → ⊥) → row_at new n ≡ row_at old n

-- each number is at one place
abbrev pub AreOnce : List ℕ → Type 0
AreOnce numbers = (i j n : ℕ) → slice_get numbers i ≡ Some n → slice_get numbers j ≡ Some n → i ≡ j

-- the item with this number is a `$d` that has the name
pub record IsDisjointAt (before : List Said) (name : List ℕ) (n : ℕ) : Type 0 where
  pub item : Said
  pub there : slice_get before n ≡ Some item
  pub disjoint : is_kind Disjoint item.kind ≡ true
  pub named : has item.symbols name ≡ true

-- the numbers rise, and are those of `$d` that have the name, of all that are active among them
pub record IsRow (before : List Said) (name : List ℕ) (row : List ℕ) : Type 0 where
  pub rising : IsRising row
  pub there : (n : ℕ) → Contains row n → IsDisjointAt before name n
  pub cover : (n : ℕ) → IsDisjointAt before name n → is_active_at before n ≡ true → Contains row n

-- each name has such a row
abbrev pub KnowsPairs : List (List ℕ) → List Said → DisjointRows → Type 0
KnowsPairs all before table = (n : ℕ) (name : List ℕ) → IsNameNumber all n name → IsRow before name (row_at table n)

-- the number is one of an active `$d`, and in both rows
abbrev pub IsCommon : List Mark → List ℕ → List ℕ → ℕ → Type 0
IsCommon marks row other n = Contains row n × Contains other n × (stays_by (drop (suc n) marks) ≡ true)

-- what a question about active pairs rests on
pub record ReadsPairs (all : List (List ℕ)) (before : List Said) (table : DisjointRows) (blocks : List Mark) : Type 0 where
  pub distinct : AreDistinct all
  pub sound : AreSound before
  pub knows : KnowsPairs all before table
  pub marks : blocks ≡ block_marks before
