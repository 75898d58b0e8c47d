-- Sums over the pieces of a map.
use Rattle.std.{proofs.{lemmas.Grind.{common_steps}, Common.{◌≡◌, ℕ, ◌+◌, List, [], ◌∷◌, Some, None, cond, sym, ap, ◌∙◌, arith}}, specs.declared.cmp.Ordering.TheVariants.{Less, Equal, Greater}}
use Rattle.std.specs.{FinMap.Entries.{by_order, find, put}, Ordering.{nat_cmp, is_eq}, Cmp.{nat_cmp_total}}
use Rattle.mm_store.{specs.{Code.Kept.{weigh}, Language.Pieces.{HeldPiece, Pieces}}, proofs.lemmas.files.MapLemmas.{get_put_same, get_put_other, get_drop_same, get_drop_other, same_but}}
use Rattle.std.specs.FinMap as finite

module _ (w : HeldPiece → ℕ) where
  abbrev pub weight : Pieces → ℕ
  weight p = weigh w (finite.entries p)

  weigh_put : (k : ℕ) (v : HeldPiece) (es : List (ℕ × HeldPiece)) → find nat_cmp k es ≡ None → weigh w (put nat_cmp k v es) ≡ weigh w es + w v
  weigh_put k v [] none = omega arith
  weigh_put k v (e ∷ es) none =
      elim (nat_cmp k e.0) as (λ r. cond (is_eq r) (Some e.1) (find nat_cmp k es) ≡ None → weigh w (by_order r ((k, v) ∷ e ∷ es) ((e.0, v) ∷ es) (e ∷ put nat_cmp k v es)) ≡ weigh w (e ∷ es) + w v) [
        | Less ↦ λ h. omega arith
        | Equal ↦ λ h. absurd (cc)
        | Greater ↦ λ h. omega (arith, weigh_put k v es h)
      ] none

  pub weight_fresh : (p : Pieces) (k : ℕ) (v : HeldPiece) → finite.get p k ≡ None → weight (finite.insert p k v) ≡ weight p + w v
  weight_fresh p k v fresh = ap (weigh w) (finite.entries-insert nat_cmp_total p k v) ∙ weigh_put k v (finite.entries p) (sym (finite.get-entries p k) ∙ fresh)

  dropped_put : (p : Pieces) (k : ℕ) (v : HeldPiece) → finite.insert (finite.remove p k) k v ≡ finite.insert p k v
  dropped_put p k v = same_but _ _ k
      (get_put_same (finite.remove p k) k v ∙ sym (get_put_same p k v))
      (λ q d. get_put_other (finite.remove p k) k v q d ∙ get_drop_other p k q d ∙ sym (get_put_other p k v q d))

  same_put : (p : Pieces) (k : ℕ) (v : HeldPiece) → finite.get p k ≡ Some v → finite.insert p k v ≡ p
  same_put p k v is = same_but _ _ k (get_put_same p k v ∙ sym is) (λ q d. get_put_other p k v q d)

  pub weight_dropped : (p : Pieces) (k : ℕ) (v : HeldPiece) → finite.get p k ≡ Some v → weight (finite.remove p k) + w v ≡ weight p
  weight_dropped p k v is = sym (weight_fresh (finite.remove p k) k v (get_drop_same p k)) ∙ ap weight (dropped_put p k v ∙ same_put p k v is)

  pub weight_put : (p : Pieces) (k : ℕ) (old v : HeldPiece) → finite.get p k ≡ Some old → weight (finite.insert p k v) + w old ≡ weight p + w v
  weight_put p k old v is =
      grind (arith, common_steps, dropped_put p k v, get_drop_same p k, weight_dropped p k old is, weight_fresh (finite.remove p k) k v (get_drop_same p k)) steps 200000
