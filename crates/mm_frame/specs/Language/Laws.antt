-- What is proved of scopes, soundness and frames: each is the contract of a function.
use Rattle.std.specs.Prelude.{◌≡◌, ◌≢◌, ℕ, suc, ◌<◌, ◌≤◌, ◌↔◌, ◌⊎◌, Bool, true, false, ◌&&◌, Some, None, List, [], ◌∷◌, ◌++◌, take, drop, count_by, slice_get, Contains}
use Rattle.std.specs.List.{AllZip}
use Rattle.mm_store.specs.declared.item.Item as store
use Rattle.mm_store.specs.Language.FilesView.{FilesView}
use Rattle.mm_machine.specs.Language.Frame.{Symbol, Mandatory, Frame, Hypothesis, Inactive, ArePair, HasVariable}
use Rattle.mm_machine.specs.Language.Typing.{IsFrame, HasFrames}
use Rattle.mm_statement.specs.Language.Item.{Said, is_kind, Floating, is_labelled, typecode_of, variable_of}
use Rattle.mm_statement.specs.Language.Statement.{Says}
use Rattle.mm_frame.specs.Language.Numbered.{IsActive, between}
use Rattle.mm_frame.specs.Language.Scope.{closed, stays, active, is_start, is_end}
use Rattle.mm_frame.specs.Language.Marks.{Neither, mark_of}
use Rattle.mm_frame.specs.declared.FrameNumber.{FrameNumber}
use Rattle.mm_frame.specs.Language.Sound.{IsSound, IsStatementFault, fault, judged, sound_items}
use Rattle.mm_frame.specs.Language.Framing.{expression, active_pairs, resolve, setting_of, mandatory_numbers}
use Rattle.mm_frame.specs.Language.Base.{BaseView, AreLabelled, AreHypotheses, IsMandatoryAt, before, said_at, hypothesis_at, frame_at, is_shown_at, is_framed_at}
use Rattle.mm_frame.specs.Language.Resolving.{IsCarrier, IsLabelOf, Resolves}
use Rattle.mm_frame.specs.declared.base.Resolved.TheVariants as answers
use Rattle.mm_frame.specs.Language.ScopeStack.{read_scopes, all_of, statements}

-- the item with this number is a sound `$f`
abbrev pub is_float_at : BaseView → ℕ → Bool
is_float_at base i = is_shown_at base i && is_kind Floating (said_at base i).kind

-- the variable is in the frame: in its expression or in one of its hypotheses
abbrev pub IsVariableOf : Frame → Symbol → Type 0
IsVariableOf frame v = HasVariable frame.expression v ⊎ ((h : Mandatory) × Contains frame.hypotheses h × HasVariable h.expression v)

-- At every item of every list, what the theory of proofs needs is known of each label that resolves to an assertion.
abbrev pub PlacesHaveFrames : Type 0
PlacesHaveFrames = (items : List Said) (j : ℕ) → HasFrames (setting_of items j)

-- A statement has one fault at most.
abbrev pub HasOneStatementFault : Type 0
HasOneStatementFault = (before : List Said) (item : Said) (w v : ℕ) (n m : FrameNumber)
    → IsStatementFault before item w n → IsStatementFault before item v m → (w ≡ v) × (n ≡ m)

-- A statement has a fault, or is sound.
abbrev pub HasFaultOrIsSound : Type 0
HasFaultOrIsSound = (before : List Said) (item : Said) → ((w : ℕ) × (n : FrameNumber) × IsStatementFault before item w n) ⊎ IsSound before item

-- No statement has a fault and is sound.
abbrev pub NeverFaultAndSound : Type 0
NeverFaultAndSound = (before : List Said) (item : Said) (w : ℕ) (n : FrameNumber) → IsStatementFault before item w n → IsSound before item → ⊥

-- The fault that is computed for a statement is its fault.
abbrev pub FaultIsFound : Type 0
FaultIsFound = (before : List Said) (item : Said) (w : ℕ) (n : FrameNumber) → (fault before item ≡ Some (w, n)) ↔ IsStatementFault before item w n

-- No fault is computed exactly for sound statements.
abbrev pub SoundHasNone : Type 0
SoundHasNone = (before : List Said) (item : Said) → (fault before item ≡ None) ↔ IsSound before item

-- One more item is judged against the sound ones before it.
abbrev pub KeptNext : Type 0
KeptNext = (items : List Said) (item : Said) → sound_items (items ++ item ∷ []) ≡ sound_items items ++ judged item (fault (sound_items items) item) ∷ []

-- Items close no block that was open before them exactly when no beginning of them has more `$}` than `${`.
abbrev pub StaysByCounts : Type 0
StaysByCounts = (items : List Said) → (stays items ≡ true) ↔ ((k : ℕ) → count_by is_end (take k items) ≤ count_by is_start (take k items))

-- The statements in the scopes of the stack are those that are active.
abbrev pub ReaderIsActive : Type 0
ReaderIsActive = (items : List Said) → closed items ≡ 0 → all_of (read_scopes ([] ∷ []) items) ≡ statements (active items)

-- A statement is active at a later one exactly when the items between them close no block that was open before them.
abbrev pub ActiveByBlocks : Type 0
ActiveByBlocks = (items : List Said) (i j : ℕ) (x y : Said) → stays items ≡ true → slice_get items i ≡ Some x → slice_get items j ≡ Some y
    → mark_of x.kind ≡ Neither → mark_of y.kind ≡ Neither → i < j → (stays (between items i j) ≡ true) ↔ IsActive items i j

-- Items that say what their bytes say have labels.
abbrev pub SaidAreLabelled : Type 0
SaidAreLabelled = (files : FilesView) (found : List store.Item) (base : BaseView) → AllZip (Says files) found base → AreLabelled base

-- Each sound `$f`, `$e`, `$a` and `$p` has a label.
abbrev pub ItemsHaveLabels : Type 0
ItemsHaveLabels = (base : BaseView) → AreLabelled base → (j : ℕ) → is_shown_at base j ≡ true → (label : List ℕ) × ((said_at base j).label ≡ Some label)

-- Two sound items with one label are one.
abbrev pub HasOwnLabels : Type 0
HasOwnLabels = (base : BaseView) (j k : ℕ) (label : List ℕ) → IsCarrier base label j → IsCarrier base label k → j ≡ k

-- A label is that of a sound item before item i, or means nothing there.
abbrev pub HasItemOrIsUnknown : Type 0
HasItemOrIsUnknown = (base : BaseView) (i : ℕ) (label : List ℕ)
    → ((j : ℕ) × IsLabelOf base i j label) ⊎ (((j : ℕ) → IsLabelOf base i j label → ⊥) × Resolves base i label answers.Unknown)

-- The label of a sound assertion means it at each later item.
abbrev pub AssertionsMean : Type 0
AssertionsMean = (base : BaseView) (i j : ℕ) (label : List ℕ) → IsLabelOf base i j label → is_framed_at base j ≡ true
    → Resolves base i label (answers.Assertion j)

-- item j is still active at item i, which comes after it: the items between them close no block that was open before them
abbrev pub is_active_at : BaseView → ℕ → ℕ → Bool
is_active_at base i j = stays (drop (suc j) (before base i))

-- The label of a sound `$f` or `$e` means its expression at each later item at which it is active.
abbrev pub ActiveHypothesesMean : Type 0
ActiveHypothesesMean = (base : BaseView) (i j : ℕ) (label : List ℕ) → IsLabelOf base i j label → is_framed_at base j ≡ false
    → is_active_at base i j ≡ true → resolve (before base i) label ≡ Hypothesis (expression (before base j) (said_at base j))

-- At each later item at which a sound `$f` or `$e` is not active any more, its label means an inactive hypothesis.
abbrev pub EndedHypothesesMean : Type 0
EndedHypothesesMean = (base : BaseView) (i j : ℕ) (label : List ℕ) → IsLabelOf base i j label → is_framed_at base j ≡ false
    → is_active_at base i j ≡ false → resolve (before base i) label ≡ Inactive

-- If each block that is closed was opened, a statement is active at a later one exactly if each block that holds it holds the later one.
abbrev pub ActiveInBlocks : Type 0
ActiveInBlocks = (base : BaseView) (i j : ℕ) (x y : Said) → stays base ≡ true → slice_get base j ≡ Some x → slice_get base i ≡ Some y
    → mark_of x.kind ≡ Neither → mark_of y.kind ≡ Neither → j < i → (is_active_at base i j ≡ true) ↔ IsActive base j i

-- A statement with a label is among the sound items, at a number, exactly if it is the item with this number, and sound.
abbrev pub SoundItemsStand : Type 0
SoundItemsStand = (base : BaseView) (n : ℕ) (item : Said) → is_labelled item.kind ≡ true
    → (slice_get (sound_items base) n ≡ Some item) ↔ ((is_shown_at base n ≡ true) × (said_at base n ≡ item))

-- The expression of a sound `$f` is its typecode, a constant, and its variable.
abbrev pub FloatsAreTypings : Type 0
FloatsAreTypings = (base : BaseView) (i : ℕ) → is_float_at base i ≡ true
    → (hypothesis_at base i).expression
    ≡ record { name = typecode_of (said_at base i); variable = false } ∷ record { name = variable_of (said_at base i); variable = true } ∷ []

-- Sound `$f` of one name give it one typecode, in whatever blocks they are.
abbrev pub FloatsAgree : Type 0
FloatsAgree = (base : BaseView) (i j : ℕ) → is_float_at base i ≡ true → is_float_at base j ≡ true
    → variable_of (said_at base i) ≡ variable_of (said_at base j) → typecode_of (said_at base i) ≡ typecode_of (said_at base j)

-- The frame of a sound assertion is as the theory of proofs needs it: each variable in it has one `$f` among its hypotheses.
abbrev pub AssertionsHaveFrames : Type 0
AssertionsHaveFrames = (base : BaseView) (i : ℕ) → is_framed_at base i ≡ true → IsFrame (frame_at base i)

-- Two variables of the frame of a sound assertion are a pair of it exactly if they are an active pair there.
abbrev pub FramesHavePairs : Type 0
FramesHavePairs = (base : BaseView) (i : ℕ) (v w : Symbol) → is_framed_at base i ≡ true → IsVariableOf (frame_at base i) v → IsVariableOf (frame_at base i) w
    → ArePair (frame_at base i).pairs v w ↔ ArePair (active_pairs (before base i)) v w

-- The two variables of an active pair are different.
abbrev pub PairsAreOfTwo : Type 0
PairsAreOfTwo = (base : BaseView) (i : ℕ) (v w : Symbol) → ArePair (active_pairs (before base i)) v w → v ≢ w

-- A mandatory hypothesis of an item is what its label means there.
abbrev pub MandatoryMeans : Type 0
MandatoryMeans = (base : BaseView) (i n : ℕ) (label : List ℕ) → IsCarrier base label n → IsMandatoryAt base i n → Resolves base i label (answers.Hypothesis n)

-- The mandatory hypotheses of an item are sound, come before it, and are those of its frame.
abbrev pub MandatoryStandBefore : Type 0
MandatoryStandBefore = (base : BaseView) (i : ℕ) → AreHypotheses base i (mandatory_numbers (before base i) (said_at base i))
