-- What a base answers of a label at an item: what the label means by the sound statements before the item (Metamath book, section 4.2).
use Rattle.std.specs.Prelude.{◌≡◌, ◌<◌, ℕ, true, Option, Some, None, List}
use Rattle.mm_frame.specs.declared.base.Resolved as answer
use Rattle.mm_frame.specs.declared.base.Resolved.TheVariants as answers
use Rattle.mm_machine.specs.Language.Frame.{LabelMeaning, Hypothesis, Assertion, Inactive, Unknown}
use Rattle.mm_frame.specs.Language.Framing.{expression, resolve}
use Rattle.mm_frame.specs.Language.Base.{BaseView, before, said_at, is_shown_at, is_framed_at, frame_at}

-- the item with this number has the label: it is a sound `$f`, `$e`, `$a` or `$p` that bears it
pub record IsCarrier (base : BaseView) (label : List ℕ) (j : ℕ) : Type 0 where
  pub shown : is_shown_at base j ≡ true
  pub label_is : (said_at base j).label ≡ Some label

-- item j comes before item i and has the label
pub record IsLabelOf (base : BaseView) (i j : ℕ) (label : List ℕ) : Type 0 where
  pub earlier : j < i
  pub carrier : IsCarrier base label j

-- an answer about a label at item i, and the meaning that it stands for: item j as a hypothesis, item j as an assertion, inactive, or
-- unknown
abbrev pub IsMeaning : BaseView → ℕ → List ℕ → answer.Resolved → LabelMeaning → Type 0
IsMeaning base i label (answers.Hypothesis j) meaning = IsLabelOf base i j label × (meaning ≡ Hypothesis (expression (before base j) (said_at base j)))
IsMeaning base i label (answers.Assertion j) meaning = IsLabelOf base i j label × (is_framed_at base j ≡ true) × (meaning ≡ Assertion (frame_at base j))
IsMeaning base i label answers.Inactive meaning = meaning ≡ Inactive
IsMeaning base i label answers.Unknown meaning = meaning ≡ Unknown

-- this is the right answer about a label at item i: it stands for what the label means there
abbrev pub Resolves : BaseView → ℕ → List ℕ → answer.Resolved → Type 0
Resolves base i label answer = IsMeaning base i label answer (resolve (before base i) label)

-- the item comes before the end; if there is none, each item does
abbrev pub IsUpTo : ℕ → Option ℕ → Type 0
IsUpTo i None = Unit {0}
IsUpTo i (Some end) = i < end
