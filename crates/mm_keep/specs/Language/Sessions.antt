-- What a session answers: each answer is a relation of its files and the name of the top file, and of nothing else.
use Rattle.std.specs.Prelude.{◌≡◌, ◌<◌, ℕ, true, Option, Some, List, length}
use Rattle.mm_proof.specs.mm_store.Language.FilesView.{File}
use Rattle.mm_proof.specs.mm_statement.Language.Database.{Located, IsDatabase}
use Rattle.mm_proof.specs.mm_frame.Language.Base.{BaseView, base_of, said_at, is_framed_at, is_proof_at}
use Rattle.mm_proof.specs.mm_verdict.Language.Work.{Recorded}
use Rattle.mm_keep.specs.Language.Citations.{CitesItem, IsAxiomOf}
use Rattle.mm_keep.specs.Language.Runs.{AreThose, AreRunsOf, AreStepsOf}
use Rattle.mm_keep.specs.Language.Told.{Told, IsRightlyTold, AreRightlyTold, Counts, counts}

-- What a session stands for: its files, and the name of its top file, the one that the database begins with.
pub record SessionView : Type 0 where
  pub files : List File
  pub top : List ℕ

-- the files of the session give items
abbrev pub HasItems : SessionView → Type 0
HasItems session = (items : List Located) × IsDatabase session.files session.top items

-- this holds of what the items of the session's files say
abbrev pub OfItems : SessionView → (BaseView → Type 0) → Type 0
OfItems session P = (items : List Located) × IsDatabase session.files session.top items × P (base_of items)

-- the session has this many items
abbrev pub IsCount : SessionView → ℕ → Type 0
IsCount session count = OfItems session (λ base. count ≡ length base)

-- the session has an item with this number
abbrev pub HasItem : SessionView → ℕ → Type 0
HasItem session i = OfItems session (λ base. i < length base)

-- the item with this number has this label, or none
abbrev pub IsLabelOfItem : SessionView → ℕ → Option (List ℕ) → Type 0
IsLabelOfItem session i label = OfItems session (λ base. label ≡ (said_at base i).label)

-- this is what is rightly reported of the item with this number
abbrev pub IsFinding : SessionView → ℕ → Told → Type 0
IsFinding session i told =
    (items : List Located) × IsDatabase session.files session.top items × IsRightlyTold session.files items i told

-- the item with this number is a sound `$a` or `$p` with this label
pub record IsAssertion (base : BaseView) (label : List ℕ) (i : ℕ) : Type 0 where
  pub within : i < length base
  pub framed : is_framed_at base i ≡ true
  pub label_is : (said_at base i).label ≡ Some label

-- the session has an assertion, a sound `$a` or `$p`, with this label
abbrev pub HasAssertion : SessionView → List ℕ → Type 0
HasAssertion session label = OfItems session (λ base. (i : ℕ) × IsAssertion base label i)

-- this is what is rightly reported of the assertion with this label
abbrev pub IsVerdictOf : SessionView → List ℕ → Told → Type 0
IsVerdictOf session label told =
    (items : List Located) × IsDatabase session.files session.top items
    × (i : ℕ) × IsAssertion (base_of items) label i × IsRightlyTold session.files items i told

-- these are the numbers of the items in this relation to the assertion with this label
abbrev pub AreNumbersOf : SessionView → List ℕ → (BaseView → ℕ → ℕ → Type 0) → List ℕ → Type 0
AreNumbersOf session label stands numbers =
    OfItems session (λ base. (i : ℕ) × IsAssertion base label i × AreThose (stands base i) (length base) numbers)

-- these are the numbers of the items that the assertion with this label cites
abbrev pub AreCitesOf : SessionView → List ℕ → List ℕ → Type 0
AreCitesOf session label numbers = AreNumbersOf session label (λ base i k. CitesItem base i k) numbers

-- these are the numbers of the items that cite the assertion with this label
abbrev pub AreUsersOf : SessionView → List ℕ → List ℕ → Type 0
AreUsersOf session label numbers = AreNumbersOf session label (λ base i k. CitesItem base k i) numbers

-- these are the numbers of the axioms of the assertion with this label
abbrev pub AreAxiomsOf : SessionView → List ℕ → List ℕ → Type 0
AreAxiomsOf session label numbers = AreNumbersOf session label (λ base i k. IsAxiomOf base i k) numbers

-- these are the counts of what is rightly reported of all items
pub record IsTally (session : SessionView) (counted : Counts) : Type 0 where
  pub items : List Located
  pub of_files : IsDatabase session.files session.top items
  pub all : List Told
  pub are_told : AreRightlyTold session.files items all
  pub is : counted ≡ counts all

-- when a session begins, each sound theorem is run, in order, each once, and the steps are counted
pub record IsBegun (session : SessionView) (work : Recorded) : Type 0 where
  pub items : List Located
  pub of_files : IsDatabase session.files session.top items
  pub those : AreThose (λ i. is_proof_at (base_of items) i ≡ true) (length (base_of items)) work.runs
  pub steps : AreStepsOf (base_of items) work.runs work.steps

-- an edit keeps the top file, and the theorems are run whose view is not that of before, in order, each once, and the steps are counted
pub record IsChanged (old new : SessionView) (work : Recorded) : Type 0 where
  pub top : new.top ≡ old.top
  pub runs : AreRunsOf old.files new.files old.top work.runs
  pub items : List Located
  pub of_files : IsDatabase new.files new.top items
  pub steps : AreStepsOf (base_of items) work.runs work.steps
