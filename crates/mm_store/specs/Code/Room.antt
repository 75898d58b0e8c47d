-- The room of a file.
use Rattle.std.specs.Prelude.{◌+◌, ◌<◌, ◌≤◌, length}
use Rattle.std.specs.VecDeque.{deque_len, deque_capacity}
use Rattle.mm_store.specs.declared.file_text.FileText.{FileText}

-- there is room for the keys and the starts of the deleted pieces that are parked
pub record HasRoom (file : FileText) : Type 0 where
  pub keys : deque_len file.keys + file.deleted ≤ deque_capacity file.keys
  pub starts : deque_len file.keys + file.deleted < length file.starts.items
