-- What was compared of two bases holds of all items that have the numbers of those that were compared.
use Rattle.std.proofs.{Common.{arith, ◌≡◌, ℕ, HashMap, cond, Bool, true, false, Option, Some, List, refl, sym, ◌∙◌, subst}, lemmas.{Grind.{common_steps}, Bool.{and_parts}, Option.{same_Some}}}
use Rattle.std.specs.{HashMap.{get}, Prelude.{◌↔◌, nat_eq}}
use Rattle.mm_frame.specs.Language.{Base.{BaseView, ShareMandatory, before, frame_at, is_framed_at, is_proof_at, is_shown_at}, Answering.{HasNumber, IsBase, same_numbers}, Framing.{active_pairs}}
use Rattle.mm_frame.specs.declared.base.Base.{Base}
use Rattle.mm_proof.{specs.Code.KeptMarks.{AreTheorems, IsAnswered, OfBases, ShareFrame, SharePairs}, proofs.{KeptMarkLemmas.{joined, turned}, TheoremLemmas.{shown_framed}}}

-- items share something the other way round, and one after the other
pub record IsShared (Share : BaseView → BaseView → ℕ → ℕ → Type 0) : Type 0 where
  pub turn : (base copy : BaseView) (i j : ℕ) → Share base copy i j → Share copy base j i
  pub join : (base copy other : BaseView) (i j k : ℕ) → Share base copy i j → Share copy other j k → Share base other i k

pub pairs_shared : IsShared SharePairs
pairs_shared = record {
  turn = λ base copy i j s. turned (active_pairs (before base i)) (active_pairs (before copy j)) s;
  join = λ base copy other i j k s t. joined (active_pairs (before base i)) (active_pairs (before copy j)) (active_pairs (before other k)) s t;
}

pub mandatory_shared : IsShared ShareMandatory
mandatory_shared = record {
  turn = λ base copy i j s. record { hypotheses = sym s.hypotheses; pairs = λ x y. ((s.pairs x y).1, (s.pairs x y).0) };
  join = λ base copy other i j k s t. record {
    hypotheses = s.hypotheses ∙ t.hypotheses;
    pairs = λ x y. (λ p. (t.pairs x y).0 ((s.pairs x y).0 p), λ p. (s.pairs x y).1 ((t.pairs x y).1 p));
  };
}

-- what is right of two items is right of all that have their numbers
pub answered : (old new : Base) (numbers : Base → List (Option ℕ)) (Share : BaseView → BaseView → ℕ → ℕ → Type 0) → IsShared Share → (i j : ℕ) (both : ℕ × ℕ) (same : Bool)
    → OfBases old new (λ base copy. (same ≡ true) ↔ Share base copy i j)
    → ((base : BaseView) → IsBase base old → (n : ℕ) → HasNumber (numbers old) n both.0 → Share base base i n)
    → ((copy : BaseView) → IsBase copy new → (n : ℕ) → HasNumber (numbers new) n both.1 → Share copy copy j n) → IsAnswered old new numbers Share both same
answered old new numbers Share shared i j both same told mine yours n m has is names base copy f g =
    let one = told names base copy f g in
    let was = mine base (names, f) n has in
    let now = yours copy (names, g) m is in (
      λ e. shared.join base copy copy n j m (shared.join base base copy n i j (shared.turn base base i n was) (one.0 e)) now,
      λ s. one.1 (shared.join base copy copy i m j (shared.join base base copy i n m was s) (shared.turn copy copy j m now)),
    )

-- two numbers that are tested are the same two
numbers_are : (a b : ℕ × ℕ) → same_numbers a b ≡ true → a ≡ b
numbers_are a b e = grind (arith, common_steps, and_parts (nat_eq a.0 b.0) (nat_eq a.1 b.1) e) steps 200000

-- one more answer
pub answered_more : {S : Type 0} (old new : Base) (numbers : Base → List (Option ℕ)) (Share : BaseView → BaseView → ℕ → ℕ → Type 0) (earlier later : HashMap (ℕ × ℕ) Bool S) (both : ℕ × ℕ) (same : Bool)
    → IsAnswered old new numbers Share both same → ((other : ℕ × ℕ) → get same_numbers later other ≡ cond (same_numbers both other) (Some same) (get same_numbers earlier other))
    → ((other : ℕ × ℕ) (answer : Bool) → get same_numbers earlier other ≡ Some answer → IsAnswered old new numbers Share other answer)
    → (other : ℕ × ℕ) (answer : Bool) → get same_numbers later other ≡ Some answer → IsAnswered old new numbers Share other answer
answered_more old new numbers Share earlier later both same is put are other answer e = by (same_numbers both other) refl (sym (put other) ∙ e)
  where
    by : (b : Bool) → same_numbers both other ≡ b → cond b (Some same) (get same_numbers earlier other) ≡ Some answer → IsAnswered old new numbers Share other answer
    by true t o = subst (λ w. IsAnswered old new numbers Share other w) (same_Some same answer o) (subst (λ w. IsAnswered old new numbers Share w same) (numbers_are both other t) is)
    by false t o = are other answer o

-- two theorems share their pairs by such an answer, and two assertions with one expression their frame
pub of_theorems : (base copy : BaseView) (i j : ℕ) (same : Bool) → is_proof_at base i ≡ true → is_proof_at copy j ≡ true → (same ≡ true) ↔ SharePairs base copy i j
    → (same ≡ true) ↔ (AreTheorems base copy i j × SharePairs base copy i j)
of_theorems base copy i j same was is told = (λ e. (record { was = was; is = is }, told.0 e), λ s. told.1 s.1)

pub of_frames : (base copy : BaseView) (i j : ℕ) (alike same : Bool) → is_framed_at base i ≡ true → is_framed_at copy j ≡ true → alike ≡ true
    → (is_shown_at base i ≡ true → is_shown_at copy j ≡ true → (alike ≡ true) ↔ ((frame_at base i).expression ≡ (frame_at copy j).expression))
    → (same ≡ true) ↔ ShareMandatory base copy i j → (same ≡ true) ↔ ShareFrame base copy i j
of_frames base copy i j alike same was is t one told =
    let expression = (one (shown_framed base i was) (shown_framed copy j is)).0 t in (
      λ e. let shared = told.0 e in record { was = was; is = is; same = record { expression = expression; hypotheses = shared.hypotheses; pairs = shared.pairs } },
      λ s. told.1 (record { hypotheses = s.same.hypotheses; pairs = s.same.pairs }),
    )
