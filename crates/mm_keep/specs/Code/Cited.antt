-- Marks of items, and which items the words of a proof that cite are labels of.
use Rattle.std.specs.Prelude.{◌≡◌, ◌↔◌, ◌⊎◌, ◌<◌, ◌+◌, ℕ, zero, suc, Bool, true, false, Some, List}
use Rattle.std.specs.Prelude.{AllPairs, length, slice_get, slice_index, slice_index_or}
use Rattle.mm_proof.specs.mm_store.Language.FilesView.{FilesView}
use Rattle.mm_proof.specs.mm_frame.Language.Base.{BaseView}
use Rattle.mm_proof.specs.mm_frame.Language.Resolving.{IsCarrier}
use Rattle.mm_proof.specs.mm_frame.Language.Answering.{IsBase}
use Rattle.mm_proof.specs.mm_frame.declared.base.Base.{Base}
use Rattle.mm_keep.specs.Language.Citations.{LeadsTo}
use Rattle.mm_keep.specs.Code.KeptCheck.{Kept}
use Rattle.mm_keep.specs.Code.KeptSession.{AreChecked}
use Rattle.mm_keep.specs.Code.OfFiles.{IsOf}

-- the number is marked
abbrev pub IsMarked : List Bool → ℕ → Type 0
IsMarked marks k = slice_index_or marks k false ≡ true

-- those of which this holds are marked as well, and no others
pub record MarksMore (P : ℕ → Type 0) (before after : List Bool) : Type 0 where
  pub count : length after ≡ length before
  pub each : (k : ℕ) → IsMarked after k ↔ (IsMarked before k ⊎ P k)

-- those are marked to which chains of citations lead from the marked ones
pub record MarksBehind (view : BaseView) (before after : List Bool) : Type 0 where
  pub count : length after ≡ length before
  pub each : (k : ℕ) → IsMarked after k ↔ ((i : ℕ) × IsMarked before i × LeadsTo view k i)

-- each number is below those after it
abbrev pub AreRising : List ℕ → Type 0
AreRising numbers = AllPairs (λ m n. m < n) numbers

-- how many words are passed if the next word that cites is the one at this place
abbrev pub passed_words : List ℕ → ℕ → ℕ
passed_words cites zero = 0
passed_words cites (suc x) = slice_index cites x + 1

-- one of the first words that cite is this label
pub record IsAmongCited (words : List (List ℕ)) (cites : List ℕ) (count : ℕ) (label : List ℕ) : Type 0 where
  pub at : ℕ
  pub before : at < count
  pub there : slice_get words (slice_index cites at) ≡ Some label

-- one of them is the label of item k
pub record HasLabelAmong (view : BaseView) (words : List (List ℕ)) (cites : List ℕ) (count k : ℕ) : Type 0 where
  pub label : List ℕ
  pub among : IsAmongCited words cites count label
  pub carrier : IsCarrier view label k

-- the item with this label, if there is one, has a place among this many marks
abbrev pub HasPlaceFor : Base → List ℕ → ℕ → Type 0
HasPlaceFor code label count = (view : BaseView) × IsBase view code × ((k : ℕ) → IsCarrier view label k → k < count)

-- the same holds of all items whose labels are words that cite
abbrev pub HasPlaces : Base → List (List ℕ) → List ℕ → ℕ → Type 0
HasPlaces code words cites count =
    (view : BaseView) × IsBase view code × ((k : ℕ) → HasLabelAmong view words cites (length cites) k → k < count)

-- there are a base of these files and what a check of its theorems says, and of these this holds
abbrev pub HasChecks : FilesView → Base → List Kept → (BaseView → Type 0) → Type 0
HasChecks files code checked holds =
    (names : List (List ℕ)) × (view : BaseView) × IsOf names files code view × AreChecked view checked × holds view

-- of each base of these files and what a check of its theorems says this holds
abbrev pub OfChecks : FilesView → Base → List Kept → (BaseView → Type 0) → Type 0
OfChecks files code checked holds = (names : List (List ℕ)) (view : BaseView) → IsOf names files code view → AreChecked view checked → holds view
