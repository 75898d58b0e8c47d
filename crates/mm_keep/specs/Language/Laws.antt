-- What is proved of sessions: each is the contract of a function.
use Rattle.std.specs.Prelude.{◌≡◌, ◌↔◌, ◌⊎◌, ◌<◌, ◌≤◌, ℕ, List, true, length, Contains}
use Rattle.mm_proof.specs.mm_store.Language.Appending.{IsAppended}
use Rattle.mm_proof.specs.mm_store.Language.FilesView.{File}
use Rattle.mm_proof.specs.mm_statement.Language.Database.{Located, IsDatabase}
use Rattle.mm_proof.specs.mm_frame.Language.Base.{BaseView, base_of, is_framed_at, is_proof_at}
use Rattle.mm_proof.specs.mm_verdict.Language.VerdictAt.{IsVerdictAt}
use Rattle.mm_proof.specs.mm_machine.declared.Verdict.TheVariants as verdicts
use Rattle.mm_keep.specs.Language.Citations.{IsAxiomOf, LeadsTo}
use Rattle.mm_keep.specs.Language.Derivable.{IsDerivableAt}
use Rattle.mm_keep.specs.Language.Resting.{RestsOn}
use Rattle.mm_keep.specs.Language.Runs.{AreRunsOf}
use Rattle.mm_keep.specs.Language.Sessions.{SessionView, HasAssertion, HasItem, HasItems, IsCount, IsLabelOfItem, IsFinding, IsVerdictOf, IsTally}
use Rattle.mm_keep.specs.Language.Sessions.{AreCitesOf, AreUsersOf, AreAxiomsOf}
use Rattle.mm_keep.specs.Language.Told.{Told, Proved, IsAxiom, IsRightlyTold}

-- Between files before and files after there is one list of runs.
abbrev pub OneListOfRuns : Type 0
OneListOfRuns =
    (before after : List File) (top runs copies : List ℕ) → AreRunsOf before after top runs → AreRunsOf before after top copies → runs ≡ copies

-- Something is rightly reported of each item of files.
abbrev pub ItemsHaveFindings : Type 0
ItemsHaveFindings =
    (files : List File) (top : List ℕ) (items : List Located) → IsDatabase files top items → (i : ℕ) → i < length items
    → (one : Told) × IsRightlyTold files items i one

-- a session has one such answer at most
abbrev pub IsOneAnswer : {A : Type 0} → (SessionView → A → Type 0) → Type 0
IsOneAnswer {A} IsSo = (session : SessionView) (answer copy : A) → IsSo session answer → IsSo session copy → answer ≡ copy

-- There is one count of the items.
abbrev pub OneCount : Type 0
OneCount = IsOneAnswer IsCount

-- There is one label at most of each item.
abbrev pub OneLabel : Type 0
OneLabel = (i : ℕ) → IsOneAnswer (λ session label. IsLabelOfItem session i label)

-- One thing is rightly reported of each item.
abbrev pub OneFinding : Type 0
OneFinding = (i : ℕ) → IsOneAnswer (λ session told. IsFinding session i told)

-- One thing is rightly reported of the assertion with a label.
abbrev pub OneVerdict : Type 0
OneVerdict = (label : List ℕ) → IsOneAnswer (λ session told. IsVerdictOf session label told)

-- There is one tally.
abbrev pub OneTally : Type 0
OneTally = IsOneAnswer IsTally

-- the relation holds of a label and one list at most
abbrev pub IsOneList : (SessionView → List ℕ → List ℕ → Type 0) → Type 0
IsOneList AreSo = (label : List ℕ) → IsOneAnswer (λ session numbers. AreSo session label numbers)

-- There is one list each of what an assertion cites, of what cites it, and of its axioms.
abbrev pub OneListEach : Type 0
OneListEach = IsOneList AreCitesOf × IsOneList AreUsersOf × IsOneList AreAxiomsOf

-- The only axiom of a sound `$a` is itself.
abbrev pub AxiomsHaveThemselves : Type 0
AxiomsHaveThemselves = (base : BaseView) (i k : ℕ) → IsAxiom base i → IsAxiomOf base i k ↔ (k ≡ i)

-- A chain of citations leads to no later item.
abbrev pub ChainsLeadBack : Type 0
ChainsLeadBack = (base : BaseView) (i k : ℕ) → LeadsTo base k i → k ≤ i

-- Between files before and files after that give items there is a list of runs.
abbrev pub HasListOfRuns : Type 0
HasListOfRuns =
    (before after : List File) (top : List ℕ) (old new : List Located) → IsDatabase before top old → IsDatabase after top new
    → (runs : List ℕ) × AreRunsOf before after top runs

-- A label is that of an assertion of a session, or of none.
abbrev pub LabelsAreDecided : Type 0
LabelsAreDecided =
    (session : SessionView) (label : List ℕ) → HasItems session → HasAssertion session label ⊎ (¬ HasAssertion session label)

-- the relation holds of each label of an assertion and some list
abbrev pub HasListOf : (SessionView → List ℕ → List ℕ → Type 0) → Type 0
HasListOf AreSo = (session : SessionView) (label : List ℕ) → HasAssertion session label → (numbers : List ℕ) × AreSo session label numbers

-- There is a list each of what an assertion cites, of what cites it, and of its axioms.
abbrev pub HasListEach : Type 0
HasListEach = HasListOf AreCitesOf × HasListOf AreUsersOf × HasListOf AreAxiomsOf

-- If an edit inserts a unit behind all others of the top file, what is rightly reported of each earlier item stays as it was.
abbrev pub AppendingKeepsFindings : Type 0
AppendingKeepsFindings =
    (old new : SessionView) (i : ℕ) (told : Told) → new.top ≡ old.top → IsAppended old.top old.files new.files → HasItems new
    → HasItem old i → IsFinding old i told → IsFinding new i told

-- If an item is rightly reported as Proved, some labels derive its statement.
abbrev pub ProvedIsDerivable : Type 0
ProvedIsDerivable = (files : List File) (items : List Located) (i : ℕ) → IsRightlyTold files items i Proved → IsDerivableAt (base_of items) i

-- An assertion rests on its axioms, if each theorem is proved to which chains of citations lead from it, itself included.
abbrev pub ProvedRestsOnAxioms : Type 0
ProvedRestsOnAxioms =
    (base : BaseView) (i : ℕ) (axioms : List ℕ) → is_framed_at base i ≡ true
    → ((k : ℕ) → IsAxiomOf base i k → Contains axioms k)
    → ((k : ℕ) → LeadsTo base k i → is_proof_at base k ≡ true → IsVerdictAt base k verdicts.Proved)
    → RestsOn base axioms i
