-- What is carried so far.
use Rattle.std.proofs.lemmas.{Grind.{common_steps}, Bool.{false≢true}, Option.{get_or_from_slice_get, slice_get-get_or, slice_get_within}}
use Rattle.std.proofs.Common.{◌≡◌, ◌≢◌, ℕ, true, is_some, ◌<◌, ◌≤◌, ◌+◌, Option, Some, None, List, length, get_or, set, refl, sym, ◌∙◌, ap, subst, arith, length-set, get_or-set_other, get_or-set_same}
use Rattle.std.proofs.Common.{slice_get}
use native.Mathlib.Decide.{dec_lt}
use Rattle.mm_proof.specs.{mm_frame.Language.Base.{BaseView, is_proof_at}, mm_verdict.Language.DecodingLaws.{LabelsAreOwn}, Language.ViewLaws.{SameViewSameVerdict, SameViewSameCites}}
use Rattle.mm_keep.specs.{Code.{KeptCheck.{Kept}, KeptSession.{IsKeptAt, AreChecked}, Planned.{IsPlanned, IsRunBy, CanCarry, kept_by}}, Language.Runs.{HasSameView}}
use Rattle.mm_keep.proofs.PlanLemmas.{checked_same, kept_by_one}

-- the first items of the new list are checked, the others are as the runs gave them, and what they keep is where it was
pub record AreCarried (base copy : BaseView) (plan : List (Option ℕ)) (count : ℕ) (old new : List Kept) : Type 0 where
  pub done : (k : ℕ) (one : Kept) → k < count → slice_get new k ≡ Some one → IsKeptAt copy k one
  pub rest : (k : ℕ) (one : Kept) → count ≤ k → slice_get new k ≡ Some one → IsRunBy copy (kept_by plan k) k one
  pub left : (k i : ℕ) (one : Kept) → count ≤ k → k < length copy → kept_by plan k ≡ Some i → slice_get old i ≡ Some one → IsKeptAt base i one

-- all are checked
pub carried_all : (base copy : BaseView) (old : List Kept) (plan : List (Option ℕ)) (new : List Kept)
    → CanCarry base copy old plan new → (spent result : List Kept) → AreCarried base copy plan (length copy) spent result
    → length result ≡ length new
    → AreChecked copy result
carried_all base copy old plan new can spent result are long =
    record { count = long ∙ can.count; each = λ i one e. are.done i one (omega (arith, long, can.count, slice_get_within result i one e)) e }

-- an item that keeps nothing
pub carried_past : (base copy : BaseView) (plan : List (Option ℕ)) (j : ℕ) (old new : List Kept) → AreCarried base copy plan j old new → kept_by plan j ≡ None → AreCarried base copy plan (j + 1) old new
carried_past base copy plan j old new are there = record {
  done = λ k one l e.
      elim (dec_lt k j) [
        | yes m ↦ are.done k one m e
        | no n ↦ (let same : j ≡ k = omega arith in subst (λ m. IsKeptAt copy m one) same (subst (λ from. IsRunBy copy from j one) there (are.rest j one (omega arith) (ap (slice_get new) same ∙ e))))
      ];
  rest = λ k one l e. are.rest k one (omega arith) e;
  left = λ k i one l w e f. are.left k i one (omega arith) w e f;
}

get_set_other : {X : Type 0} (xs : List X) (i k : ℕ) (x y : X) → i ≢ k → slice_get (set xs i y) k ≡ Some x → slice_get xs k ≡ Some x
get_set_other xs i k x y ne e =
    let w = slice_get_within (set xs i y) k x e in
    let n = length-set xs i y in
    slice_get-get_or xs k x (omega arith) ∙ ap Some (sym (get_or-set_other xs i k y x (λ f. ne (sym f))) ∙ get_or_from_slice_get (set xs i y) k x x e)

-- an item that keeps what was checked before
pub carried_kept : LabelsAreOwn → SameViewSameVerdict → SameViewSameCites → (base copy : BaseView) (checked : List Kept) (plan : List (Option ℕ)) (ran : List Kept) → CanCarry base copy checked plan ran
    → (j i : ℕ) (old new : List Kept) → AreCarried base copy plan j old new → j < length copy → kept_by plan j ≡ Some i → i < length old → j < length new
    → AreCarried base copy plan (j + 1) (set old i (get_or new j None)) (set new j (get_or old i None))
carried_kept own verdicts cites base copy checked plan ran can j i old new are w there l m =
    let kept : HasSameView base copy i j = subst (IsPlanned base copy j) there (can.planned j w) in
    record {
      done = λ k one n e.
          elim (dec_lt k j) [
            | yes before ↦ (let ne : j ≢ k = omega arith in are.done k one before (get_set_other new j k one (get_or old i None) ne e))
            | no past ↦ (
                let same : j ≡ k = omega arith in
                let here : slice_get old i ≡ Some one =
                slice_get-get_or old i None l ∙ ap Some (sym (get_or-set_same new j (get_or old i None) None m) ∙ ap (λ x. get_or (set new j (get_or old i None)) x None) same ∙ get_or_from_slice_get (set new j (get_or old i None)) k one None e) in
                subst (λ x. IsKeptAt copy x one) same (checked_same verdicts cites base copy checked plan ran can i j kept one (are.left j i one (omega arith) w there here))
                )
          ];
      rest = λ k one n e. let ne : j ≢ k = omega arith in are.rest k one (omega arith) (get_set_other new j k one (get_or old i None) ne e);
      left = λ k h one n v e f.
          grind (arith, common_steps, kept_by_one own base copy checked plan ran can i j k kept, subst (IsPlanned base copy k) e (can.planned k v), are.left k h one, get_set_other old i h one (get_or new j None)) steps 200000;
    }

-- what is kept was checked, and there is something in its place
pub old_some : (base copy : BaseView) (checked : List Kept) (plan : List (Option ℕ)) (ran : List Kept) → CanCarry base copy checked plan ran
    → (j i : ℕ) (old new : List Kept) → AreCarried base copy plan j old new → j < length copy → kept_by plan j ≡ Some i → length old ≡ length checked
    → is_some (get_or old i None) ≡ true
old_some base copy checked plan ran can j i old new are w there long =
    let kept : HasSameView base copy i j = subst (IsPlanned base copy j) there (can.planned j w) in
    let l : i < length old = omega (arith, kept.within, can.was.count) in
    checked_some base i (get_or old i None) kept.was (are.left j i (get_or old i None) (omega arith) w there (slice_get-get_or old i None l)) where
      checked_some : (base : BaseView) (i : ℕ) (one : Kept) → is_proof_at base i ≡ true → IsKeptAt base i one → is_some one ≡ true
      checked_some base i None was is = absurd (false≢true (sym is ∙ was))
      checked_some base i (Some place) was is = refl

pub new_some : (base copy : BaseView) (plan : List (Option ℕ)) (j i : ℕ) (old new : List Kept) → AreCarried base copy plan j old new → kept_by plan j ≡ Some i
    → j < length new → is_some (get_or new j None) ≡ true
new_some base copy plan j i old new are there l =
    ap is_some (subst (λ from. IsRunBy copy from j (get_or new j None)) there (are.rest j (get_or new j None) (omega arith) (slice_get-get_or new j None l)))

-- one item more is carried, if it keeps something
pub carried_one : LabelsAreOwn → SameViewSameVerdict → SameViewSameCites → (base copy : BaseView) (checked : List Kept) (plan : List (Option ℕ)) (ran : List Kept) → CanCarry base copy checked plan ran
    → (j : ℕ) (old new spent given : List Kept) → AreCarried base copy plan j old new → j < length copy → j < length new
    → (from : Option ℕ) → kept_by plan j ≡ from → ((i : ℕ) → from ≡ Some i → i < length old)
    → (from ≡ None → (spent ≡ old) × (given ≡ new))
    → ((i : ℕ) → from ≡ Some i → (spent ≡ set old i (get_or new j None)) × (given ≡ set new j (get_or old i None)))
    → AreCarried base copy plan (j + 1) spent given
carried_one own verdicts cites base copy checked plan ran can j old new spent given are w m None is bound nothing moved =
    grind (arith, common_steps, carried_past base copy plan j old new are is) steps 200000
carried_one own verdicts cites base copy checked plan ran can j old new spent given are w m (Some i) is bound nothing moved =
    grind (arith, carried_kept own verdicts cites base copy checked plan ran can j i old new are w is (bound i refl) m) steps 200000

-- as many items as before
pub carried_lengths : (from : Option ℕ) (j : ℕ) (old new spent given : List Kept) → (from ≡ None → (spent ≡ old) × (given ≡ new))
    → ((i : ℕ) → from ≡ Some i → (spent ≡ set old i (get_or new j None)) × (given ≡ set new j (get_or old i None)))
    → (length spent ≡ length old) × (length given ≡ length new)
carried_lengths None j old new spent given nothing moved = let e = nothing refl in (ap length e.0, ap length e.1)
carried_lengths (Some i) j old new spent given nothing moved = grind (arith, common_steps, length-set old i (get_or new j None), length-set new j (get_or old i None)) steps 200000
