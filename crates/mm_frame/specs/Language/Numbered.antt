-- Blocks and activity in a whole list, by the items' numbers: a block goes from its `${` to the `$}` that makes their counts even.
use Rattle.std.specs.Prelude.{◌≡◌, ℕ, true, ◌+◌, ◌-◌, ◌<◌, Some, List, take, drop, slice_get, count_by}
use Rattle.mm_statement.specs.Language.Item.{Said}
use Rattle.mm_frame.specs.Language.Scope.{is_start, is_end}

-- from item b up to item e, both counted, there are as many `$}` as `${`
abbrev pub IsEven : List Said → ℕ → ℕ → Type 0
IsEven items b e = count_by is_end (take (e + 1 - b) (drop b items)) ≡ count_by is_start (take (e + 1 - b) (drop b items))

-- item e is the first after item b with which the counts are even
pub record IsEndOf (items : List Said) (b e : ℕ) : Type 0 where
  pub behind : b < e
  pub even : IsEven items b e
  pub first : (k : ℕ) → b < k → k < e → IsEven items b k → ⊥

-- the block of item b holds item i
pub record HoldsItem (items : List Said) (b i : ℕ) : Type 0 where
  pub start : Said
  pub there : slice_get items b ≡ Some start
  pub starts : is_start start ≡ true
  pub behind : b < i
  pub before_end : (e : ℕ) → IsEndOf items b e → i < e

-- item i is active at item j
pub record IsActive (items : List Said) (i j : ℕ) : Type 0 where
  pub before : i < j
  pub blocks : (b : ℕ) → HoldsItem items b i → HoldsItem items b j

-- the items between two
abbrev pub between : List Said → ℕ → ℕ → List Said
between items i j = take (j - (i + 1)) (drop (i + 1) items)
