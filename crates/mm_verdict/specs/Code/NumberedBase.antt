-- What a base answers, with numbers in place of the names of symbols.
use Rattle.std.specs.Prelude.{ℕ, List}
use Rattle.mm_frame.specs.declared.base.Base.{Base}
use Rattle.mm_frame.specs.Language.Base.{BaseView, hypothesis_at, frame_at}
use Rattle.mm_machine.specs.Language.Frame.{Mandatory, Frame, Setting}
use Rattle.mm_frame.specs.Language.Answering.{IsBaseBy}
use Rattle.mm_verdict.specs.Language.BaseLabels.{setting_at}
use Rattle.mm_machine.specs.Language.Renaming.{renamed_mandatory, renamed_frame, renamed_setting}
use Rattle.mm_machine.specs.Language.Numbering.{unnaming}

-- the hypothesis with a number, by the numbers of names
abbrev pub numbered_hypothesis : List (List ℕ) → BaseView → ℕ → Mandatory
numbered_hypothesis names view n = renamed_mandatory (unnaming names) (hypothesis_at view n)

-- the frame of the assertion with a number
abbrev pub numbered_frame : List (List ℕ) → BaseView → ℕ → Frame
numbered_frame names view n = renamed_frame (unnaming names) (frame_at view n)

-- what a proof of the item with a number is read against
abbrev pub numbered_setting : List (List ℕ) → BaseView → ℕ → Setting
numbered_setting names view i = renamed_setting (unnaming names) (setting_at view i)

-- this holds for each list of names by which the base is read, and for what it answers by the list
abbrev pub ByNames : Base → (List (List ℕ) → BaseView → Type 0) → Type 0
ByNames code holds = (names : List (List ℕ)) (view : BaseView) → IsBaseBy names view code → holds names view
