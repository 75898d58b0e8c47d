-- From the fields of `Blocks` to what contracts see, and what always holds of the fields.
use Rattle.std.specs.Prelude.{◌≡◌, ℕ, suc, ◌+◌, ◌-◌, ◌<◌, ◌≤◌, Bool, false, if◌then◌else◌, ◌==◌, Option, Some, None, List, [], ◌∷◌, ◌++◌, length, drop}
use Rattle.std.specs.Prelude.{count_by, slice_get}
use Rattle.mm_frame.specs.Language.Marks.{Mark, Opens, Closes, Neither}
use Rattle.mm_frame.specs.Code.BlockMarks.{opens, closes}
use Rattle.mm_frame.specs.Code.BlockMarks.{closed_by}
use Rattle.mm_frame.specs.Code.BlockEnds.{end_of_block}
use Rattle.mm_frame.specs.declared.blocks.Blocks.TheInside.{Inside}

-- the block ended at this item
abbrev pub is_at : Option ℕ → ℕ → Bool
is_at None item = false
is_at (Some end) item = end == item

-- what an item did, by the blocks that were innermost before it and after it: it ended the first, or kept it, or opened the second
abbrev pub mark_between : List (Option ℕ) → ℕ → ℕ → ℕ → Mark
mark_between ends item before behind = if is_at (end_of_block ends before) item then Closes else (if before == behind then Neither else Opens)

-- what the items from a number on did, by the block that was innermost before them and the innermost blocks after each
abbrev pub marks_from : List (Option ℕ) → ℕ → ℕ → List ℕ → List Mark
marks_from ends item before [] = []
marks_from ends item before (behind ∷ blocks) = mark_between ends item before behind ∷ marks_from ends (suc item) behind blocks

-- what each item did; block 0 was innermost at first
abbrev pub blocks_view : Inside → List Mark
blocks_view inside = marks_from inside.ends.items 0 0 inside.block_of.items

-- the block that is innermost after the last item
abbrev pub last_block : ℕ → List ℕ → ℕ
last_block before [] = before
last_block before (behind ∷ blocks) = last_block behind blocks

-- the marks close no block that was open before them, and leave this many of their own open
abbrev pub LeavesOpen : List Mark → ℕ → Type 0
LeavesOpen marks count = (later : List Mark) → closed_by (marks ++ later) ≡ closed_by later - count

-- the block is open, and the marks after an item in it leave the blocks open that are further inside
pub record StandsOpen (stack : List ℕ) (behind : List Mark) (block : ℕ) : Type 0 where
  pub level : ℕ
  pub there : slice_get stack level ≡ Some block
  pub leaves : LeavesOpen behind (length stack - suc level)

-- the first of the marks after an item that closes its block is that of the item `end`
pub record StandsEnded (behind : List Mark) (item end : ℕ) : Type 0 where
  pub front : List Mark
  pub rest : List Mark
  pub parts : behind ≡ front ++ Closes ∷ rest
  pub number : end ≡ item + suc (length front)
  pub leaves : LeavesOpen front 0

-- the block of an item is open, or has ended
abbrev pub Stands : List ℕ → List Mark → ℕ → ℕ → Option ℕ → Type 0
Stands stack behind block item None = StandsOpen stack behind block
Stands stack behind block item (Some end) = StandsEnded behind item end

-- the innermost block after each item, the ends of the blocks and the open blocks are those of the marks
pub record AreBlocks (blocks : List ℕ) (ends : List (Option ℕ)) (outer : List ℕ) (current : ℕ) (marks : List Mark) : Type 0 where
  pub stand : (item block : ℕ) → slice_get blocks item ≡ Some block
      → Stands (outer ++ current ∷ []) (drop (suc item) marks) block item (end_of_block ends block)
  pub unended : (level block : ℕ) → slice_get (outer ++ current ∷ []) level ≡ Some block → end_of_block ends block ≡ None
  pub distinct : (one other block : ℕ) → slice_get (outer ++ current ∷ []) one ≡ Some block → slice_get (outer ++ current ∷ []) other ≡ Some block → one ≡ other
  pub numbered : (level block : ℕ) → slice_get outer level ≡ Some block → block < length ends
  pub newest : current ≤ length ends
  pub last : last_block 0 blocks ≡ current

-- blocks, ends and open blocks are right by their own marks, and the counts of items that began and that ended a block are right
pub record AreBlockEndsKept (blocks : List ℕ) (ends : List (Option ℕ)) (outer : List ℕ) (current begun ended : ℕ) : Type 0 where
  pub are_blocks : AreBlocks blocks ends outer current (marks_from ends 0 0 blocks)
  pub begun_is : begun ≡ count_by opens (marks_from ends 0 0 blocks)
  pub ended_is : ended ≡ count_by closes (marks_from ends 0 0 blocks)

-- the fields are right in this way
abbrev pub AreBlocksKept : Inside → Type 0
AreBlocksKept inside = AreBlockEndsKept inside.block_of.items inside.ends.items inside.outer.items inside.current inside.begun inside.ended
