-- What changes of single pieces make of their texts, of the pieces that are not parked, and of weights.
use Rattle.std.proofs.{lemmas.{Grind.{common_steps}, Bool.{cases_eq}}, Common.{◌≡◌, ◌≢◌, ℕ, ◌+◌, List, Some, None, ap, arith}}
use Rattle.mm_store.specs.Code.Kept.{one, standing_count, standing_state}
use Rattle.mm_store.specs.Language.Pieces.{PieceState, Standing, Parked, Removal, HeldPiece, Pieces, in_state, with_state, standing_piece, text_in, text_under}
use Rattle.mm_store.proofs.lemmas.files.{MapLemmas.{get_put_same, get_put_other, get_drop_same, get_drop_other}, ListLemmas.{one_same, one_other}}
use Rattle.std.specs.FinMap as finite

module _ (p : Pieces) (k : ℕ) where
  pub text_put_same : (v : HeldPiece) → text_under (finite.insert p k v) k ≡ v.text
  text_put_same v = ap text_in (get_put_same p k v)

  pub text_put_other : (v : HeldPiece) (q : ℕ) → q ≢ k → text_under (finite.insert p k v) q ≡ text_under p q
  text_put_other v q differs = ap text_in (get_put_other p k v q differs)

  pub text_drop_other : (q : ℕ) → q ≢ k → text_under (finite.remove p k) q ≡ text_under p q
  text_drop_other q differs = ap text_in (get_drop_other p k q differs)

  -- a change of state keeps all texts
  pub text_state : (state : PieceState) (q : ℕ) → text_under (with_state p k state) q ≡ text_under p q
  text_state state q = grind (arith, common_steps, cases_eq, text_put_other, text_put_same) steps 200000

  pub get_state_same : (state : PieceState) → finite.get (with_state p k state) k ≡ Some (in_state (finite.get p k) state)
  get_state_same state = get_put_same p k (in_state (finite.get p k) state)

  pub get_state_other : (state : PieceState) (q : ℕ) → q ≢ k → finite.get (with_state p k state) q ≡ finite.get p q
  get_state_other state q differs = get_put_other p k (in_state (finite.get p k) state) q differs

  -- as many pieces are in files
  pub stands_put : (text : List ℕ) (q : ℕ) → finite.get p k ≡ None → standing_count (finite.get (finite.insert p k (standing_piece text)) q) ≡ standing_count (finite.get p q) + one q k
  stands_put text q fresh = grind (arith, common_steps, get_put_other, get_put_same, cases_eq, one_other, one_same) steps 200000

  pub stands_held : (piece : HeldPiece) → finite.get p k ≡ None → (q : ℕ) → standing_state piece.state ≡ 0 → standing_count (finite.get (finite.insert p k piece) q) ≡ standing_count (finite.get p q)
  stands_held piece fresh q none = grind (arith, common_steps, get_put_other, get_put_same, cases_eq) steps 200000

module _ (p : Pieces) (k : ℕ) (n : ℕ) (kind : Removal) (q : ℕ) where
  pub stands_parked : standing_count (finite.get p k) ≡ 1 → standing_count (finite.get (with_state p k (Parked n kind)) q) + one q k ≡ standing_count (finite.get p q)
  stands_parked was = grind (arith, common_steps, get_state_other, cases_eq, one_other, one_same, get_state_same) steps 200000

  pub stands_again : standing_count (finite.get p k) ≡ 0 → standing_count (finite.get (with_state p k Standing) q) ≡ standing_count (finite.get p q) + one q k
  stands_again was = grind (arith, common_steps, get_state_other, cases_eq, one_other, one_same, get_state_same) steps 200000

  pub stands_settled : standing_count (finite.get p k) ≡ 0 → standing_count (finite.get (finite.remove p k) q) ≡ standing_count (finite.get p q)
  stands_settled was = grind (arith, common_steps, get_drop_other, get_drop_same, cases_eq) steps 200000
