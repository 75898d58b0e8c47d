-- How far two bases are in step.
use Rattle.std.specs.Prelude.{◌≡◌, ◌<◌, ◌⊎◌, ◌++◌, ◌∷◌, [], ℕ, Bool, zero, suc, false, true}
use Rattle.std.specs.Prelude.{if◌then◌else◌, Option, Some, None, List, length, slice_get, slice_index}
use Rattle.mm_frame.specs.Language.Base.{BaseView, before, said_at, is_shown_at, is_framed_at}
use Rattle.mm_frame.specs.Language.Framing.{expression}
use Rattle.mm_frame.specs.Language.Resolving.{IsCarrier, IsUpTo, Resolves}
use Rattle.mm_frame.specs.declared.base.Base.{Base}
use Rattle.mm_frame.specs.declared.base.Resolved.TheVariants as answers
use Rattle.mm_proof.specs.Language.BaseMarks.{HaveOneLabel}
use Rattle.mm_proof.specs.Code.KeptMarks.{OfBases, ShareFrame}
use Rattle.mm_proof.specs.declared.marks.Step.{Step}
use Rattle.mm_proof.specs.declared.ordinals.Ordinals.{Ordinals}

-- how many sound items with a label come before item n
abbrev pub ordinal : BaseView → ℕ → ℕ
ordinal base zero = 0
ordinal base (suc n) = if is_shown_at base n then suc (ordinal base n) else ordinal base n

-- these are the ordinals of this many items, from the first on
pub record AreOrdinals (base : BaseView) (count : ℕ) (numbers : List ℕ) : Type 0 where
  pub count_is : length numbers ≡ count
  pub each : (n : ℕ) → n < count → slice_index numbers n ≡ ordinal base n

-- these are the ordinals of the items of two bases, and of their ends
abbrev pub AreOrdinalsOf : Base → Base → Ordinals → Type 0
AreOrdinalsOf old new ordinals = OfBases old new (λ base copy.
    AreOrdinals base (suc (length base)) ordinals.old.items × AreOrdinals copy (suc (length copy)) ordinals.new.items)

-- hypothesis n is active at the items after it up to this one, or at all of them
pub record EndsAt (base : BaseView) (n : ℕ) (end : Option ℕ) : Type 0 where
  pub active : (label : List ℕ) (i : ℕ) → IsCarrier base label n → is_framed_at base n ≡ false → n < i → IsUpTo i end
      → Resolves base i label (answers.Hypothesis n)
  pub ended : (label : List ℕ) (i : ℕ) → IsCarrier base label n → is_framed_at base n ≡ false → n < i → (IsUpTo i end → ⊥)
      → Resolves base i label answers.Inactive

-- two ends have one ordinal, or there is none of either
abbrev pub AreEndsAlike : BaseView → BaseView → Option ℕ → Option ℕ → Type 0
AreEndsAlike base copy None None = Unit {0}
AreEndsAlike base copy (Some a) (Some b) = ordinal base a ≡ ordinal copy b
AreEndsAlike base copy _ _ = ⊥

-- two hypotheses have such ends
pub record SharesEnd (base copy : BaseView) (i j : ℕ) : Type 0 where
  pub mine : Option ℕ
  pub yours : Option ℕ
  pub was : EndsAt base i mine
  pub is : EndsAt copy j yours
  pub alike : AreEndsAlike base copy mine yours

-- both items are hypotheses with the same expression and such ends
pub record KeepsHypothesis (base copy : BaseView) (i j : ℕ) : Type 0 where
  pub was : is_framed_at base i ≡ false
  pub is : is_framed_at copy j ≡ false
  pub same : expression (before base i) (said_at base i) ≡ expression (before copy j) (said_at copy j)
  pub end : SharesEnd base copy i j

-- both items are assertions with one frame, or such hypotheses
abbrev pub MeanOne : BaseView → BaseView → ℕ → ℕ → Type 0
MeanOne base copy i j = ShareFrame base copy i j ⊎ KeepsHypothesis base copy i j

-- two sound items have one label and one ordinal
pub record AreLevel (base copy : BaseView) (i j : ℕ) : Type 0 where
  pub one_label : HaveOneLabel base copy i j
  pub ordinal_is : ordinal base i ≡ ordinal copy j

-- the item is listed as changed
abbrev pub IsTold : List ℕ → ℕ → Type 0
IsTold changed j = (place : ℕ) × (slice_get changed place ≡ Some j)

-- there is such an item of the old base for item j of the new one, if that has a label
abbrev pub HasLevel : BaseView → BaseView → ℕ → Type 0
HasLevel base copy j = is_shown_at copy j ≡ true → (i : ℕ) × AreLevel base copy i j

-- and both mean the same, unless the item is listed as changed
abbrev pub HasAlike : BaseView → BaseView → List ℕ → ℕ → Type 0
HasAlike base copy changed j = is_shown_at copy j ≡ true → (i : ℕ) × AreLevel base copy i j × (IsTold changed j ⊎ MeanOne base copy i j)

-- there is such an item for each item before this one
abbrev pub AreInStep : BaseView → BaseView → List ℕ → ℕ → Type 0
AreInStep base copy changed j = (m : ℕ) → m < j → HasAlike base copy changed m

-- what is listed as changed after item j
abbrev pub changed_behind : List ℕ → ℕ → Bool → List ℕ
changed_behind changed j here = if here then changed ++ j ∷ [] else changed

-- what is known of the items before item j, if these are listed as changed
pub record IsStepAt (old new : Base) (changed : List ℕ) (j : ℕ) (step : Step) : Type 0 where
  pub in_step : step.in_step ≡ true → OfBases old new (λ base copy. AreInStep base copy changed j)
