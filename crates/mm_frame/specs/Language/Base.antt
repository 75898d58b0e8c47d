-- What a base answers: which items are sound, and what each sound one means, by what the items say (Metamath book, section 4.2).
use Rattle.std.specs.Prelude.{◌≡◌, ◌<◌, ◌↔◌, ℕ, suc, Bool, true, ◌&&◌, if◌then◌else◌, Option, Some, None, is_none, List, take, drop, map, All, AllPairs}
use Rattle.std.specs.Prelude.{Contains}
use Rattle.std.specs.List.{AllZip}
use Rattle.mm_store.specs.declared.item.Item as store
use Rattle.mm_store.specs.Language.FilesView.{FilesView, files_in}
use Rattle.mm_store.specs.Language.Expansion.{IsExpansion}
use Rattle.mm_frame.specs.declared.FrameNumber.{FrameNumber}
use Rattle.mm_frame.specs.declared.FrameNumber.TheVariants.{F14}
use Rattle.mm_machine.specs.Language.Frame.{Symbol, Mandatory, Frame, AreSamePairs}
use Rattle.mm_statement.specs.Language.Item.{Kind, Missing, Said, is_labelled, is_assertion, is_kind, Theorem, item_at}
use Rattle.mm_frame.specs.Language.Sound.{fault, sound_items}
use Rattle.mm_statement.specs.Language.Statement.{Says}
use Rattle.mm_statement.specs.Language.Database.{Located}
use Rattle.mm_frame.specs.Language.Scope.{stays}
use Rattle.mm_frame.specs.Language.Framing.{expression, hypothesis, mandatory_variables, is_mandatory, frame}

-- what a base stands for: what each item says, in the order of the items
abbrev pub BaseView : Type 0
BaseView = List Said

-- what items say, without their places
abbrev pub base_of : List Located → BaseView
base_of items = map (λ item. item.said) items

-- the items are those of the expansion of these files from the top file on, and each says what its bytes say
pub record IsOfFiles (files : FilesView) (top : List ℕ) (found : List store.Item) (base : BaseView) : Type 0 where
  pub expansion : IsExpansion (files_in files) top found
  pub each : AllZip (Says files) found base

-- the items before the one with this number; each statement at fault is passed over
abbrev pub before : BaseView → ℕ → List Said
before base i = sound_items (take i base)

-- what the item with this number says
abbrev pub said_at : BaseView → ℕ → Said
said_at base i = item_at base i

-- each `$f`, `$e`, `$a` and `$p` has a label
abbrev pub AreLabelled : BaseView → Type 0
AreLabelled base = (i : ℕ) → is_labelled (said_at base i).kind ≡ true → (label : List ℕ) × ((said_at base i).label ≡ Some label)

-- a missing file has F14, at its name; any other item has the fault of its statement, if that has one
abbrev pub fault_by : Kind → Option (ℕ × FrameNumber) → Option (ℕ × FrameNumber)
fault_by Missing statement = Some (1, F14)
fault_by _ statement = statement

-- the fault of an item after the sound ones before it, if it has one: the word that it is reported at, and its number
abbrev pub told_fault : List Said → Said → Option (ℕ × FrameNumber)
told_fault before item = fault_by item.kind (fault before item)

-- the fault of the item with this number, if it has one
abbrev pub fault_at : BaseView → ℕ → Option (ℕ × FrameNumber)
fault_at base i = told_fault (before base i) (said_at base i)

-- the item with this number has no fault
abbrev pub is_sound_at : BaseView → ℕ → Bool
is_sound_at base i = is_none (fault_at base i)

-- the expression of a sound `$f`, `$e`, `$a` or `$p`
abbrev pub expression_at : BaseView → ℕ → Option (List Symbol)
expression_at base i = if is_sound_at base i && is_labelled (said_at base i).kind then Some (expression (before base i) (said_at base i)) else None

-- the item with this number is a sound `$f`, `$e`, `$a` or `$p`
abbrev pub is_shown_at : BaseView → ℕ → Bool
is_shown_at base i = is_sound_at base i && is_labelled (said_at base i).kind

-- the item with this number is a sound `$a` or `$p`
abbrev pub is_framed_at : BaseView → ℕ → Bool
is_framed_at base i = is_sound_at base i && is_assertion (said_at base i).kind

-- the item with this number is a sound `$p`
abbrev pub is_proof_at : BaseView → ℕ → Bool
is_proof_at base i = is_sound_at base i && is_kind Theorem (said_at base i).kind

-- the hypothesis with this number, as it is read at its own place
abbrev pub hypothesis_at : BaseView → ℕ → Mandatory
hypothesis_at base n = hypothesis (before base n) (said_at base n)

-- the frame of the assertion with this number
abbrev pub frame_at : BaseView → ℕ → Frame
frame_at base i = frame (before base i) (said_at base i)

-- two assertions have the same mandatory hypotheses and the same mandatory pairs
pub record ShareMandatory (base copy : BaseView) (i j : ℕ) : Type 0 where
  pub hypotheses : (frame_at base i).hypotheses ≡ (frame_at copy j).hypotheses
  pub pairs : AreSamePairs (frame_at base i).pairs (frame_at copy j).pairs

-- item n is an active hypothesis that is mandatory for item i
pub record IsMandatoryAt (base : BaseView) (i n : ℕ) : Type 0 where
  pub earlier : n < i
  pub shown : is_shown_at base n ≡ true
  pub active : stays (drop (suc n) (before base i)) ≡ true
  pub mandatory : is_mandatory (mandatory_variables (before base i) (said_at base i)) (said_at base n) ≡ true

-- these are the numbers of all mandatory hypotheses, rising; each is a sound statement before item i; in order they give the hypotheses of
-- the frame
pub record AreHypotheses (base : BaseView) (i : ℕ) (numbers : List ℕ) : Type 0 where
  pub which : (n : ℕ) → Contains numbers n ↔ IsMandatoryAt base i n
  pub rise : AllPairs (λ m n. m < n) numbers
  pub each : All (λ n. (n < i) × (is_shown_at base n ≡ true)) numbers
  pub are : map (hypothesis_at base) numbers ≡ (frame_at base i).hypotheses
