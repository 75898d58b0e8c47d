-- Runs by a plan: one item more.
use Rattle.std.proofs.Common.{rules, ◌≡◌, ℕ, ◌<◌, ◌≤◌, ◌+◌, ◌↔◌, ◌⊎◌, true, Option, Some, None, List, [], ◌∷◌, ◌++◌, length, get_or, refl, sym, ◌∙◌, subst, arith, inl, inr, slice_get, Contains}
use Rattle.std.proofs.lemmas.{Grind.{common_steps}, Bool.{false≢true}, List.{length_push, get_or_append_left, Elements.{Contains-get_or, Contains-append_left, Contains-push, Contains-push_cases}}}
use Rattle.std.proofs.{lemmas.{List.{Quantifiers.{all_pairs_push}, Sums.{sum_by_push}}, Option.{get_or_from_slice_get, slice_get-get_or, slice_get_within}}, Math.Seq.{get_or-append_seam}}
use Rattle.std.specs.List.{AllZip}
use native.Mathlib.Decide.{dec_lt}
use Rattle.mm_proof.specs.{mm_frame.Language.Base.{BaseView, is_proof_at}, mm_verdict.Language.{VerdictAt.{AreDoneAt}, Work.{Recorded}}}
use Rattle.mm_keep.specs.{Language.Runs.{AreThose, AreRuns, AreStepsOf, HadView, IsRun}, Code.KeptCheck.{Kept}}
use Rattle.mm_keep.specs.Code.Planned.{ArePlanned, IsPlanned, IsRunBy, AreRunBy, RunsBy, kept_by, AreRecorded, RecordsRun, RecordsIf}

-- an element is in the list with one more, and is the last or one before it
pub get_front : {X : Type 0} (xs : List X) (y : X) (k : ℕ) (x : X) → slice_get (xs ++ y ∷ []) k ≡ Some x → ((k < length xs) × (slice_get xs k ≡ Some x)) ⊎ ((k ≡ length xs) × (y ≡ x))
get_front xs y k x e =
    grind (arith, slice_get_within (xs ++ y ∷ []) k x e, length_push xs y, get_or_from_slice_get (xs ++ y ∷ []) k x y e, dec_lt k (length xs), get_or-append_seam xs y [] y, slice_get-get_or, get_or_append_left) steps 200000

pub zip_push : {A B : Type 0} (R : A → B → Type 0) (xs : List A) (ys : List B) (x : A) (y : B) → AllZip R xs ys → R x y → AllZip R (xs ++ x ∷ []) (ys ++ y ∷ [])
zip_push R (w ∷ xs) (z ∷ ys) x y a r = (a.0, zip_push R xs ys x y a.1 r)
zip_push R xs ys x y a r = grind (arith, common_steps) steps 200000

-- numbers of which the one holds within the one bound, and the other within the other
pub those_moved :
    (P Q : ℕ → Type 0) (n m : ℕ) (numbers : List ℕ) → AreThose P n numbers → ((k : ℕ) → k < n → P k → (k < m) × Q k) → ((k : ℕ) → k < m → Q k → (k < n) × P k) →
    AreThose Q m numbers
those_moved P Q n m numbers those to from = record { rising = those.rising; each = λ k. grind (arith, common_steps, those.each k, to k, from k) steps 200000 }

-- none below this one
pub those_behind : (P : ℕ → Type 0) (n : ℕ) → ((k : ℕ) → k < n → P k → ⊥) → AreThose P n []
those_behind P n no_one = record { rising = λ i j d l m. absurd (omega arith); each = λ k. (λ c. absurd (let l = c.1 in omega (arith, l)), λ p. absurd (no_one k p.0 p.1)) }

pub those_none : (P : ℕ → Type 0) → AreThose P 0 []
those_none P = those_behind P 0 (λ k l p. omega (arith, l))

-- one number more, of which it does not hold
pub those_skip : (P : ℕ → Type 0) (n : ℕ) (numbers : List ℕ) → AreThose P n numbers → ¬ P n → AreThose P (n + 1) numbers
those_skip P n numbers those not = record { rising = those.rising; each = λ k. grind (arith, common_steps, those.each k) steps 200000 }

-- one number more, of which it holds
pub those_more : (P : ℕ → Type 0) (n : ℕ) (numbers : List ℕ) → AreThose P n numbers → P n → AreThose P (n + 1) (numbers ++ n ∷ [])
those_more P n numbers those holds = record {
  rising = all_pairs_push (λ a b. a < b) numbers n those.rising (λ k d l. ((those.each (get_or numbers k d)).0 (Contains-get_or numbers k d l)).0);
  each = λ k. (
    λ c.
        elim (Contains-push_cases numbers n k c) [
          | inl front ↦ (let p = (those.each k).0 front in (omega (arith, p.0), p.1))
          | inr last ↦ (omega (arith, last), subst P last holds)
        ],
    λ p.
        elim (dec_lt k n) [
          | yes l ↦ Contains-append_left numbers (n ∷ []) k ((those.each k).1 (l, p.1))
          | no m ↦ (let e : n ≡ k = omega (arith, p.0) in subst (λ i. Contains (numbers ++ n ∷ []) i) e (Contains-push numbers n))
        ],
  );
}

-- the steps of one run more
pub steps_more : (base : BaseView) (runs : List ℕ) (total j count : ℕ) → AreStepsOf base runs total → AreDoneAt base j count → AreStepsOf base (runs ++ j ∷ []) (total + count)
steps_more base runs total j count steps done = grind (arith, common_steps, zip_push (AreDoneAt base) runs steps.counts j count steps.each done, sum_by_push) steps 200000

-- what one item more gives
pub run_more : (new : BaseView) (plan : List (Option ℕ)) (checked : List Kept) (from : Option ℕ) (one : Kept)
    → AreRunBy new plan checked → kept_by plan (length checked) ≡ from → IsRunBy new from (length checked) one
    → AreRunBy new plan (checked ++ one ∷ [])
run_more new plan checked from one ran there is j other e = grind (arith, common_steps, get_front checked one j other e, ran j other) steps 200000

none_not_some : (i : ℕ) (plan : List (Option ℕ)) (j : ℕ) → kept_by plan j ≡ Some i → kept_by plan j ≡ None → ⊥
none_not_some i plan j e f = let g = sym e ∙ f in cc

recorded_skip : (new : BaseView) (plan : List (Option ℕ)) (j : ℕ) (before after : Recorded) → AreRecorded new plan j before → ¬ RunsBy new plan j → after ≡ before → AreRecorded new plan (j + 1) after
recorded_skip new plan j before after are not e = subst (λ (w : Recorded). AreRecorded new plan (j + 1) w) (sym e) (record { those = those_skip (RunsBy new plan) j before.runs are.those not; steps = are.steps })

recorded_run : (new : BaseView) (plan : List (Option ℕ)) (j : ℕ) (before after : Recorded) → AreRecorded new plan j before → RunsBy new plan j → RecordsRun new j before after → AreRecorded new plan (j + 1) after
recorded_run new plan j before after are runs run =
    search (rules, steps_more new before.runs before.steps j run.count are.steps run.done, those_more (RunsBy new plan) j before.runs are.those runs)

-- one item more is recorded, if it runs
pub recorded_more : (new : BaseView) (plan : List (Option ℕ)) (j : ℕ) (from : Option ℕ) (before after : Recorded) → kept_by plan j ≡ from → RecordsIf new from j before after → AreRecorded new plan j before → AreRecorded new plan (j + 1) after
recorded_more new plan j (Some i) before after there e are = recorded_skip new plan j before after are (λ r. none_not_some i plan j there r.nothing) e
recorded_more new plan j None before after there (inl p) are = recorded_run new plan j before after are (record { theorem = p.0; nothing = there }) p.1
recorded_more new plan j None before after there (inr p) are = recorded_skip new plan j before after are (λ r. false≢true (sym p.0 ∙ r.theorem)) p.1

-- how much one item more takes of the room and of the steps
pub takes : (new : BaseView) (from : Option ℕ) (j : ℕ) (before after : Recorded) → RecordsIf new from j before after → (after.steps ≤ before.steps + 4294967295) × (before.room ≤ after.room + 1)
takes new from j before after e = grind (arith, common_steps) steps 200000

-- what holds of the same numbers below the count
those_same : (P Q : ℕ → Type 0) (n : ℕ) (numbers : List ℕ) → AreThose P n numbers → ((k : ℕ) → k < n → P k ↔ Q k) → AreThose Q n numbers
those_same P Q n numbers those same = those_moved P Q n n numbers those (λ k l p. (l, (same k l).0 p)) (λ k l q. (l, (same k l).1 q))

-- what runs by a plan that keeps nothing is each theorem
pub begun_runs : (base : BaseView) (runs : List ℕ) → AreThose (RunsBy base []) (length base) runs → AreThose (λ i. is_proof_at base i ≡ true) (length base) runs
begun_runs base runs those =
    those_same (RunsBy base []) (λ i. is_proof_at base i ≡ true) (length base) runs those (λ k l. (λ r. r.theorem, λ p. record { theorem = p; nothing = refl }))

-- what runs by a plan is what the old base had no equal view of
pub planned_runs : (old base : BaseView) (plan : List (Option ℕ)) (runs : List ℕ) → ArePlanned old base plan → AreThose (RunsBy base plan) (length base) runs → AreRuns old base runs
planned_runs old base plan runs planned those =
    those_same (RunsBy base plan) (IsRun old base) (length base) runs those (λ k l. (
      λ r. record { theorem = r.theorem; changed = subst (IsPlanned old base k) r.nothing (planned k l) },
      λ r. record { theorem = r.theorem; nothing = nothing k (kept_by plan k) (planned k l) r.changed },
    ))
  where
    nothing : (k : ℕ) (from : Option ℕ) → IsPlanned old base k from → ¬ HadView old base k → from ≡ None
    nothing k None is not = refl
    nothing k (Some i) is not = absurd (not (i, is))
