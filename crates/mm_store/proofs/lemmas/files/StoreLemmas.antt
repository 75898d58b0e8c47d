-- What is kept of the pieces in a slab, after changes of it.
use Rattle.std.proofs.lemmas.{Grind.{common_steps, elements}, Bool.{cases_eq}, Option.{same_Some, none-some}, List.{nil_from_length, Sums.{sum_by-cons}}}
use Rattle.std.proofs.Common.{◌≡◌, inl, inr, is_some, true, ℕ, zero, suc, ◌+◌, ◌≤◌, List, [], ◌∷◌, ◌++◌, Option, Some, None, map, cond, get_or, count_by, refl, sym, ap, ◌∙◌, subst, arith, All}
use Rattle.std.specs.{List.{sum_by}, Option.{option_map}, FinMap.{get-from_entries}, Ordering.{nat_cmp}, Cmp.{nat_cmp_total}}
use Rattle.slab.specs.Slab.{Slab, get, entries_from, Updates}
use Rattle.mm_store.specs.declared.{piece_text.PieceText.{PieceText}, pieces.Piece.{Piece}}
use Rattle.mm_store.specs.Language.Pieces.{HeldPiece, Pieces, PieceState, standing_piece, with_state, parked_state, parked_count, parked_under, parked_pieces, text_in, text_under}
use Rattle.mm_store.specs.Code.{Inside.{IsPieceKept, ArePut}, Kept.{weigh}, States.{piece_state}, Slots.{held, entry_view, pieces_of, AreKeptIn, ArePutIn}}
use Rattle.mm_store.proofs.lemmas.{files.SlabLemmas.{below, get_is, put_is}, expansion.WeightLemmas.{weight_fresh, weight_put, weight_dropped}}
use Rattle.std.specs.FinMap as finite
use Rattle.mm_store.specs.declared.state.State.TheVariants as code

pub kept_put : (old new : Slab Piece) (key : ℕ) (piece : Piece) → Updates old new key (Some piece) → IsPieceKept piece.kept → AreKeptIn old → AreKeptIn new
kept_put old new key piece updates is_kept kept k x there = elim (cases_eq k key) [
  | inl is ↦ subst (λ (y : Piece). IsPieceKept y.kept) (same_Some piece x (sym updates.changed ∙ ap (get new) (sym is) ∙ there)) is_kept
  | inr differs ↦ kept k x (sym (updates.others k differs) ∙ there)
]

pub kept_drop : (old new : Slab Piece) (key : ℕ) → Updates old new key None → AreKeptIn old → AreKeptIn new
kept_drop old new key updates kept k x there = elim (cases_eq k key) [
  | inl is ↦ absurd (none-some x (sym updates.changed ∙ ap (get new) (sym is) ∙ there))
  | inr differs ↦ kept k x (sym (updates.others k differs) ∙ there)
]

abbrev parked_weight : HeldPiece → ℕ
parked_weight piece = parked_state piece.state

weigh_is : (es : List (ℕ × HeldPiece)) → sum_by (λ entry. parked_state entry.1.state) es ≡ weigh parked_weight es
weigh_is [] = refl
weigh_is (e ∷ es) = sum_by-cons (λ (entry : ℕ × HeldPiece). parked_state entry.1.state) e es ∙ ap (λ n. parked_state e.1.state + n) (weigh_is es)

pub parked_is : (p : Pieces) → parked_pieces p ≡ weigh parked_weight (finite.entries p)
parked_is p = weigh_is (finite.entries p)

pub parked_put : (p : Pieces) (k : ℕ) (piece : HeldPiece) → finite.get p k ≡ None → parked_pieces (finite.insert p k piece) ≡ parked_pieces p + parked_state piece.state
parked_put p k piece fresh = omega (arith, parked_is p, parked_is (finite.insert p k piece), weight_fresh parked_weight p k piece fresh)

pub parked_changed : (p : Pieces) (k : ℕ) (piece : HeldPiece) (s : PieceState) → finite.get p k ≡ Some piece → parked_pieces (with_state p k s) + parked_under p k ≡ parked_pieces p + parked_state s
parked_changed p k piece s is = grind (arith, common_steps, parked_is, weight_put) steps 200000

pub parked_dropped : (p : Pieces) (k : ℕ) (piece : HeldPiece) → finite.get p k ≡ Some piece → parked_pieces (finite.remove p k) + parked_state piece.state ≡ parked_pieces p
parked_dropped p k piece is = omega (arith, parked_is p, parked_is (finite.remove p k), weight_dropped parked_weight p k piece is)

pub nothing_parked : parked_pieces finite.empty ≡ 0
nothing_parked = ap (sum_by (λ (entry : ℕ × HeldPiece). parked_state entry.1.state)) (nil_from_length (finite.entries finite.empty) (sym (finite.len-entries finite.empty) ∙ finite.len-empty nat_cmp HeldPiece))

-- the map of the pieces weighs what the slots do
pub weigh_slots : (first : ℕ) (slots : List (Option Piece)) → weigh parked_weight (finite.entries (finite.from_entries {R = nat_cmp}
    (map entry_view (entries_from first slots)))) ≡ sum_by (λ (entry : ℕ × Piece). parked_state (piece_state entry.1.state)) (entries_from first slots)
weigh_slots first [] = sym (parked_is finite.empty) ∙ nothing_parked
weigh_slots first (None ∷ rest) = weigh_slots (first + 1) rest
weigh_slots first (Some piece ∷ rest) =
    let later = finite.from_entries {R = nat_cmp} (map entry_view (entries_from (first + 1) rest)) in
    let fresh : finite.get later first ≡ None = get-from_entries nat_cmp_total (map entry_view (entries_from (first + 1) rest)) first ∙ below first (first + 1) rest (omega arith) in
    omega (arith, weight_fresh parked_weight later first (held piece) fresh, weigh_slots (first + 1) rest, sum_by-cons (λ (entry : ℕ × Piece). parked_state (piece_state entry.1.state)) (first, piece) (entries_from (first + 1) rest))

pub no_more : (first : ℕ) (slots : List (Option Piece)) → sum_by (λ (entry : ℕ × Piece). parked_state (piece_state entry.1.state)) (entries_from first slots) ≤ count_by is_some slots
no_more first [] = omega arith
no_more first (None ∷ rest) = omega (arith, no_more (first + 1) rest, sum_by-cons (λ (o : Option Piece). cond (is_some o) 1 0) None rest)
no_more first (Some piece ∷ rest) = grind (arith, common_steps, no_more (first + 1) rest, sum_by-cons) steps 200000

pub one_less : (first at : ℕ) (slots : List (Option Piece)) (piece : Piece) → get_or slots at None ≡ Some piece
    → sum_by (λ (entry : ℕ × Piece). parked_state (piece_state entry.1.state)) (entries_from first slots) + 1 ≤ count_by is_some slots + parked_state
    (piece_state piece.state)
one_less first (suc at) (None ∷ rest) piece there = omega (arith, one_less (first + 1) at rest piece there, sum_by-cons (λ (o : Option Piece). cond (is_some o) 1 0) None rest)
one_less first zero (Some x ∷ rest) piece there = grind (arith, common_steps, no_more (first + 1) rest, same_Some x piece there, sum_by-cons) steps 200000
one_less first (suc at) (Some x ∷ rest) piece there = grind (arith, common_steps, one_less (first + 1) at rest piece there, sum_by-cons) steps 200000
one_less first _ _ piece there = absurd (none-some piece there)

-- pieces put one after another
pub put_more : (old mid new : Slab Piece) (pieces : List PieceText) (keys : List ℕ) (kept : PieceText) (key : ℕ) → ArePutIn old pieces keys mid
    → get mid key ≡ None → Updates mid new key (Some (record { kept = kept; state = code.Standing })) → ArePutIn old (pieces ++ kept ∷ []) (keys ++ key ∷ []) new
put_more old mid new [] keys kept key put fresh updates = grind (arith, elements) steps 200000
put_more old mid new (first ∷ pieces) keys kept key put fresh updates = grind (arith, common_steps, put_more put.2 mid new pieces put.1 kept key put.6 fresh updates) steps 200000

pub are_put : (old new : Slab Piece) (pieces : List PieceText) (keys : List ℕ) → ArePutIn old pieces keys new → ArePut (pieces_of old) (map (λ piece. piece.text) pieces) keys (pieces_of new)
are_put old new [] keys put = (put.0, ap pieces_of put.1)
are_put old new (first ∷ pieces) keys put =
    grind (arith, common_steps, get_is old put.0, put_is old put.2 put.0 (record { kept = first; state = code.Standing }) put.5, are_put put.2 new pieces put.1 put.6) steps 200000

pub kept_all : (old new : Slab Piece) (pieces : List PieceText) (keys : List ℕ) → ArePutIn old pieces keys new → All IsPieceKept pieces → AreKeptIn old → AreKeptIn new
kept_all old new [] keys put all kept = subst AreKeptIn (sym put.1) kept
kept_all old new (first ∷ pieces) keys put all kept =
    kept_all put.2 new pieces put.1 put.6 (λ n d h. all (suc n) d (omega arith)) (kept_put old put.2 put.0 (record { kept = first; state = code.Standing }) put.5 (all 0 first (omega arith)) kept)

pub parked_all : (old new : Pieces) (texts : List (List ℕ)) (keys : List ℕ) → ArePut old texts keys new → parked_pieces new ≡ parked_pieces old
parked_all old new [] keys put = ap parked_pieces put.1
parked_all old new (text ∷ texts) keys put = omega (arith, parked_all (finite.insert old put.0 (standing_piece text)) new texts put.1 put.4, parked_put old put.0 (standing_piece text) put.3)

-- what the map has under a key is what the slab has
pub at_is : (slab : Slab Piece) (key : ℕ) (m : Pieces) → pieces_of slab ≡ m → finite.get m key ≡ option_map held (get slab key)
at_is slab key m is = ap (λ m. finite.get m key) (sym is) ∙ get_is slab key

pub slot_there : (slab : Slab Piece) (key : ℕ) (m : Pieces) → pieces_of slab ≡ m → is_some (finite.get m key) ≡ true → (piece : Piece) × (get slab key ≡ Some piece)
slot_there slab key m is there = by (get slab key) refl
  where
    by : (o : Option Piece) → get slab key ≡ o → (piece : Piece) × (get slab key ≡ Some piece)
    by None e = absurd (let none : is_some (finite.get m key) ≡ is_some {T = HeldPiece} None = ap is_some (at_is slab key m is ∙ ap (option_map held) e) in cc)
    by (Some piece) e = (piece, e)

pub none_text : (slab : Slab Piece) (key : ℕ) (m : Pieces) → pieces_of slab ≡ m → None ≡ get slab key → text_under m key ≡ []
none_text slab key m is none = ap text_in (at_is slab key m is ∙ ap (option_map held) (sym none))

pub parked_there : (slab : Slab Piece) (key : ℕ) (m : Pieces) (piece : Piece) → pieces_of slab ≡ m → get slab key ≡ Some piece → parked_under m key ≡ parked_state (piece_state piece.state)
parked_there slab key m piece is there = ap parked_count (at_is slab key m is ∙ ap (option_map held) there)
