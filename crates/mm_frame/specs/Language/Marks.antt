-- What each item does to the blocks (Metamath book, section 4.2.8).
use Rattle.mm_statement.specs.Language.Item.{Kind, BlockStart, BlockEnd}

-- What an item does to blocks: it opens one, closes one, or neither.
pub data Mark : Type 0 where
  Opens : Mark
  Closes : Mark
  Neither : Mark

-- `${` opens a block, `$}` closes one
abbrev pub mark_of : Kind → Mark
mark_of BlockStart = Opens
mark_of BlockEnd = Closes
mark_of _ = Neither
