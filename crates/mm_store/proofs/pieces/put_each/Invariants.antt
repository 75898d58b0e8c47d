use Rattle.std.{proofs.Common.{◌≡◌, ℕ, ◌+◌, ◌++◌, ◌≤◌, List, length, vec_len, vec_capacity}, specs.Vec.Iter.{into_iter_items, into_iter_len}}
use Rattle.slab.specs.Slab.{HasRoomFor}
use Rattle.mm_store.specs.Code.Slots.{ArePutIn}
use Rattle.mm_store.proofs.pieces.put_each.Given as goal

abbrev pub invariant-loop-kept : goal.invariant-loop-kept
invariant-loop-kept l = record {
  rest : l.yielded ++ into_iter_items l.kept-iterator ≡ l.fn.pieces.items;
  many : into_iter_len l.kept-iterator ≡ length (into_iter_items l.kept-iterator);
  put : (added : List ℕ) × (l.keys.items ≡ l.initial.keys.items ++ added) × ArePutIn l.initial.slab l.yielded added l.slab;
  slab_room : HasRoomFor l.slab (length (into_iter_items l.kept-iterator));
  key_room : vec_len l.keys + length (into_iter_items l.kept-iterator) ≤ vec_capacity l.keys;
}
