-- A label belongs to one sound item, and a mandatory hypothesis is found by its label.
use Rattle.std.proofs.lemmas.{Bool.{and_right}, Grind.{common_steps}, Option.{none-some}}
use Rattle.std.proofs.Common.{◌∙◌, ◌≡◌, ◌<◌, ◌⊎◌, ℕ, Bool, true, false, ◌&&◌, ◌||◌, Option, Some, None, List, refl, inl, inr, arith}
use Rattle.mm_statement.specs.Language.Item.{has, variable_of, Kind, is_assertion, is_kind, Essential, Floating}
use Rattle.mm_frame.specs.{Code.{BlockMarks.{block_marks}, KeptBase.{find_in}}, Language.{Sound.{sound_items}, Framing.{mandatory_variables}}}
use Rattle.mm_frame.specs.Language.{Base.{said_at, is_sound_at, IsMandatoryAt, is_framed_at, BaseView, before}, Resolving.{IsCarrier, IsLabelOf, Resolves}}
use Rattle.mm_frame.proofs.lemmas.base.ResolvingLemmas.{active_by, active_means, assertion_means, carrier_found, found_carrier, later_means, unknown_means}
use native.Mathlib.Decide.{dec_lt}
use Rattle.mm_frame.specs.declared.base.Resolved.TheVariants as answers

-- two sound items with one label are one
pub own_label : (base : BaseView) (j k : ℕ) (label : List ℕ) → IsCarrier base label j → IsCarrier base label k → j ≡ k
own_label base j k label a b = grind (arith, common_steps, carrier_found base label j a, carrier_found base label k b) steps 200000

pub hypothesis_kind : (kind : Kind) (b : Bool) → (is_kind Essential kind || (is_kind Floating kind && b)) ≡ true → is_assertion kind ≡ false
hypothesis_kind kind b e = grind (arith, common_steps) steps 200000

-- a mandatory hypothesis is what its label means
pub mandatory_means : (base : BaseView) (i n : ℕ) (label : List ℕ) → IsCarrier base label n → IsMandatoryAt base i n → Resolves base i label (answers.Hypothesis n)
mandatory_means base i n label c m =
    let item = said_at base n in
    let kind = hypothesis_kind item.kind (has (mandatory_variables (before base i) (said_at base i)) (variable_of item)) m.mandatory in
    active_means base i label n (block_marks (sound_items base)) refl c m.earlier (and_right (is_sound_at base n) (is_assertion item.kind) kind) (active_by base (block_marks (sound_items base)) i n refl ∙ m.active)

-- a label is that of a sound item before another, or means nothing there
abbrev StandsOrNot : BaseView → ℕ → List ℕ → Type 0
StandsOrNot base i label = ((j : ℕ) × IsLabelOf base i j label) ⊎ (((j : ℕ) → IsLabelOf base i j label → ⊥) × Resolves base i label answers.Unknown)

pub label_or_unknown : (base : BaseView) (i : ℕ) (label : List ℕ) → StandsOrNot base i label
label_or_unknown base i label = by_item (find_in base label) refl
  where
    by_order : (j : ℕ) → IsCarrier base label j → Dec (j < i) → StandsOrNot base i label
    by_order j carrier (yes l) = inl (j, record { earlier = l; carrier = carrier })
    by_order j carrier (no m) = inr (
      λ k h. (let same = own_label base k j label h.carrier carrier in let before = h.earlier in m (omega (arith, same, before))),
      later_means base i label j carrier (omega (arith, m)),
    )

    by_item : (found : Option ℕ) → find_in base label ≡ found → StandsOrNot base i label
    by_item None e = grind (arith, common_steps, none-some, carrier_found, unknown_means) steps 200000
    by_item (Some j) e = by_order j (found_carrier base label j e) (dec_lt j i)

-- the label of an assertion means it
pub assertion_is_meant : (base : BaseView) (i j : ℕ) (label : List ℕ) → IsLabelOf base i j label → is_framed_at base j ≡ true → Resolves base i label (answers.Assertion j)
assertion_is_meant base i j label h framed = assertion_means base i label j h.carrier h.earlier framed
