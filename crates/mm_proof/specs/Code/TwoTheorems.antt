-- Two theorems whose views are compared, one of an old base and one of a new one.
use Rattle.std.specs.Prelude.{◌≡◌, ◌≢◌, ◌↔◌, ◌<◌, Bool, List, Some, IsTrue, IfSome, ℕ, slice_get}
use Rattle.std.specs.List.{AllByRecursion}
use Rattle.mm_frame.specs.mm_store.Language.FilesView.{FilesView}
use Rattle.mm_frame.specs.Language.Base.{BaseView, said_at}
use Rattle.mm_frame.specs.Language.Answering.{IsBase}
use Rattle.mm_verdict.specs.Language.BaseLabels.{setting_at}
use Rattle.mm_verdict.specs.Language.ReadIn.{HasTheorem, IsReadIn}
use Rattle.mm_verdict.specs.Language.SameToDecode.{IsSameLabel}
use Rattle.mm_proof.specs.Code.KeptMarks.{OfBasesBy, AreMarksOf, AreTheorems}
use Rattle.mm_proof.specs.declared.view.TwoTheorems.{TwoTheorems}

-- this holds of what the two bases answer, both by the names
abbrev pub OfTwo : TwoTheorems → (BaseView → BaseView → Type 0) → Type 0
OfTwo two holds = OfBasesBy two.names.now two.old.now two.new.now holds

-- what is reported of the bases, if anything is, is what stays of the old one in the new one
abbrev pub AreMarked : TwoTheorems → Type 0
AreMarked two = IfSome two.marks (λ m. AreMarksOf two.names.now two.old.now two.new.now m.now)

-- both are sound `$p` that can be read in these files
pub record CanBeCompared (two : TwoTheorems) (files : FilesView) : Type 0 where
  pub was : HasTheorem two.names.now files two.old.now two.i
  pub is : HasTheorem two.names.now files two.new.now two.j
  pub marked : AreMarked two

-- this holds of what the two bases are by these files
abbrev pub OfTwoIn : TwoTheorems → FilesView → (BaseView → BaseView → Type 0) → Type 0
OfTwoIn two files holds = (base copy : BaseView) → IsReadIn two.names.now files two.old.now base
    → IsReadIn two.names.now files two.new.now copy → holds base copy

-- the label means the same at both
abbrev pub MeansSame : TwoTheorems → BaseView → BaseView → List ℕ → Type 0
MeansSame two base copy label = IsSameLabel (setting_at base two.i) (setting_at copy two.j) label

-- the answer says whether each of these labels means the same at both
abbrev pub TellsLabels : TwoTheorems → List (List ℕ) → Bool → Type 0
TellsLabels two labels told = OfTwo two (λ base copy. IsTrue told ↔ AllByRecursion (MeansSame two base copy) labels)

-- each of these labels means the same at both exactly when each of those does
abbrev pub LeavesLabels : TwoTheorems → List (List ℕ) → List (List ℕ) → Type 0
LeavesLabels two labels left = OfTwo two (λ base copy. AllByRecursion (MeansSame two base copy) labels ↔ AllByRecursion (MeansSame two base copy) left)

-- the answer says whether the two theorems share this
abbrev pub TellsShared : TwoTheorems → (BaseView → BaseView → ℕ → ℕ → Type 0) → Bool → Type 0
TellsShared two shared told = OfTwo two (λ base copy. AreTheorems base copy two.i two.j → IsTrue told ↔ shared base copy two.i two.j)

-- if item m of the new base comes before the theorem, none of these words is its label
abbrev pub IsUnnamed : TwoTheorems → List (List ℕ) → ℕ → Type 0
IsUnnamed two words m = (copy : BaseView) → IsBase copy two.new.now → m < two.j → (label : List ℕ) → (said_at copy m).label ≡ Some label
    → AllByRecursion (λ word. word ≢ label) words

-- so it is for the first so many of these items
abbrev pub AreUnnamed : TwoTheorems → List (List ℕ) → List ℕ → ℕ → Type 0
AreUnnamed two words changed count = (place m : ℕ) → place < count → slice_get changed place ≡ Some m → IsUnnamed two words m
