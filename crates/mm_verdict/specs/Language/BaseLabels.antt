-- The label of each item of a base, and what a proof at an item is read against.
use Rattle.std.specs.Prelude.{◌≡◌, ℕ, true, List, [], unwrap_or}
use Rattle.std.specs.List.{AllByRecursion}
use Rattle.mm_frame.specs.Language.Base.{BaseView, before, said_at, is_shown_at}
use Rattle.mm_frame.specs.Language.Framing.{setting}
use Rattle.mm_machine.specs.Language.Frame.{Setting}
use Rattle.mm_frame.specs.Language.Resolving.{Resolves}
use Rattle.mm_frame.specs.declared.base.Resolved.TheVariants as answers

-- the label of the item with this number; empty if it has none
abbrev pub label_at : BaseView → ℕ → List ℕ
label_at base j = unwrap_or (said_at base j).label []

-- what a proof of the item with this number is read against: what labels mean, and which pairs are active, after the sound items before it
abbrev pub setting_at : BaseView → ℕ → Setting
setting_at base i = setting (before base i)

-- no two sound items have the same label
abbrev pub NoLabelTwice : BaseView → Type 0
NoLabelTwice base = (j k : ℕ) → is_shown_at base j ≡ true → is_shown_at base k ≡ true → label_at base j ≡ label_at base k → j ≡ k

-- the items are hypotheses that are active at item i
abbrev pub AreActive : BaseView → ℕ → List ℕ → Type 0
AreActive base i numbers = AllByRecursion (λ j. Resolves base i (label_at base j) (answers.Hypothesis j)) numbers
