-- From a slab of pieces to the map of the pieces.
use Rattle.std.proofs.{lemmas.Grind.{common_steps}, Common.{is_some, ◌≡◌, ℕ, zero, suc, ◌+◌, ◌<◌, List, [], ◌∷◌, Option, Some, None, map, get_or, refl, sym, ap, ◌∙◌, arith, add-zero, true}}
use Rattle.std.specs.{Ordering.{nat_cmp}, Cmp.{nat_cmp_total}, Option.{option_map}, FinMap.{find, get-from_entries}}
use Rattle.slab.{specs.Slab.{Slab, get, entries_from, entries, Updates, with_value}, proofs.SlabLemmas.{Updates-with_value}}
use Rattle.mm_store.specs.{declared.{state.State.{State}, pieces.Piece.{Piece}}, Code.{States.{piece_state}, Slots.{held, entry_view, pieces_of}}}
use Rattle.mm_store.specs.Language.Pieces.{Pieces, in_state, with_state, text_in, text_under}
use Rattle.mm_store.proofs.lemmas.files.MapLemmas.{same_key, other_key, same_but, get_put_same, get_put_other, get_drop_same, get_drop_other}
use Rattle.std.specs.FinMap as finite

pub below : (q first : ℕ) (slots : List (Option Piece)) → q < first → find nat_cmp q (map entry_view (entries_from first slots)) ≡ None
below q first [] lt = refl
below q first (None ∷ rest) lt = below q (first + 1) rest (omega arith)
below q first (Some piece ∷ rest) lt = grind (arith, common_steps, below q (first + 1) rest (omega arith), other_key) steps 200000

found : (first at : ℕ) (slots : List (Option Piece)) → find nat_cmp (first + at) (map entry_view (entries_from first slots)) ≡ option_map held (get_or slots at None)
found first at [] = refl
found first zero (None ∷ rest) = below (first + 0) (first + 1) rest (omega arith)
found first (suc at) (None ∷ rest) = grind (arith, common_steps, found (first + 1) at rest) steps 200000
found first zero (Some piece ∷ rest) = grind (arith, common_steps, add-zero first, same_key first) steps 200000
found first (suc at) (Some piece ∷ rest) = grind (arith, common_steps, found (first + 1) at rest, other_key) steps 200000

-- the map has what the slab has
pub get_is : (slab : Slab Piece) (key : ℕ) → finite.get (pieces_of slab) key ≡ option_map held (get slab key)
get_is slab key = get-from_entries nat_cmp_total (map entry_view (entries slab)) key ∙ ap (λ q. find nat_cmp q (map entry_view (entries slab))) (sym (zero_add key)) ∙ found 0 key slab.slots
  where
    zero_add : (n : ℕ) → 0 + n ≡ n
    zero_add n = omega arith

pub put_is : (old new : Slab Piece) (key : ℕ) (piece : Piece) → Updates old new key (Some piece) → pieces_of new ≡ finite.insert (pieces_of old) key (held piece)
put_is old new key piece updates = grind (arith, get_is new key, get_put_same (pieces_of old) key (held piece), updates.others, same_but, get_is, get_put_other) steps 200000

pub drop_is : (old new : Slab Piece) (key : ℕ) → Updates old new key None → pieces_of new ≡ finite.remove (pieces_of old) key
drop_is old new key updates = grind (arith, get_is new key, get_drop_same (pieces_of old) key, updates.others, same_but, get_is, get_drop_other) steps 200000

pub state_is : (slab : Slab Piece) (key : ℕ) (piece : Piece) (state : State) → get slab key ≡ Some piece → pieces_of (with_value slab key (record { kept = piece.kept; state = state })) ≡ with_state (pieces_of slab) key (piece_state state)
state_is slab key piece state is =
    let there : is_some (get slab key) ≡ true = ap is_some is in
    put_is slab (with_value slab key (record { kept = piece.kept; state = state })) key (record { kept = piece.kept; state = state }) (Updates-with_value slab key (record { kept = piece.kept; state = state }) there)
    ∙ ap (λ o. finite.insert (pieces_of slab) key (in_state o (piece_state state))) (sym (get_is slab key ∙ ap (option_map held) is))

-- what the map has, the slab has
pub some_slot : (slab : Slab Piece) (key : ℕ) (m : Pieces) → pieces_of slab ≡ m → is_some (finite.get m key) ≡ true → is_some (get slab key) ≡ true
some_slot slab key m is there = grind (arith, common_steps, get_is) steps 200000

pub text_is : (slab : Slab Piece) (key : ℕ) (m : Pieces) (piece : Piece) → pieces_of slab ≡ m → get slab key ≡ Some piece → text_under m key ≡ piece.kept.text
text_is slab key m piece is there = ap text_in (ap (λ m. finite.get m key) (sym is) ∙ get_is slab key ∙ ap (option_map held) there)
