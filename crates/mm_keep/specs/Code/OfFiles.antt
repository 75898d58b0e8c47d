-- A base as that of the files that it was built from, and what its items are there.
use Rattle.std.specs.Prelude.{◌≡◌, ℕ, ◌+◌, ◌<◌, true, All, List, length, slice_get}
use Rattle.mm_proof.specs.mm_store.declared.item.Item as store
use Rattle.mm_proof.specs.mm_store.Language.FilesView.{FilesView}
use Rattle.mm_proof.specs.mm_store.Language.FileFacts.{CanBeRead, StandsIn}
use Rattle.mm_proof.specs.mm_frame.Language.Base.{BaseView, said_at, is_proof_at}
use Rattle.mm_proof.specs.mm_frame.declared.base.Base.{Base}
use Rattle.mm_proof.specs.mm_verdict.Language.ReadIn.{IsReadIn}
use Rattle.mm_proof.specs.mm_verdict.Language.ItemLaws.{IsSpotIn}
use Rattle.mm_proof.specs.mm_verdict.Language.VerdictAt.{IsVerdictAt}
use Rattle.mm_proof.specs.mm_machine.declared.Spot.{Spot}
use Rattle.mm_proof.specs.mm_machine.declared.Verdict.{Verdict}
use Rattle.mm_keep.specs.declared.finding.At.{At}
use Rattle.mm_keep.specs.Code.KeptCheck.{Kept}
use Rattle.mm_keep.specs.Code.KeptSession.{AreChecked}
use Rattle.mm_keep.specs.Code.KeyedTold.{word_start, HasKeyedPlace}

-- the code's base answers this by these names, what it answers is what its items say in these files, and the items are in the files
pub record IsOf (names : List (List ℕ)) (files : FilesView) (code : Base) (view : BaseView) : Type 0 where
  pub read_in : IsReadIn names files code view
  pub stand : All (StandsIn files) code.items

-- there is what the code's base answers, and it has an item with this number
abbrev pub HasItemOf : List (List ℕ) → FilesView → Base → ℕ → Type 0
HasItemOf names files code n = (view : BaseView) × IsOf names files code view × (n < length view)

-- such a base has a sound `$p` with this number, and the spot is in its proof, by some names
abbrev pub HasSpotOf : FilesView → Base → ℕ → Spot → Type 0
HasSpotOf files code n spot =
    (names : List (List ℕ)) × (view : BaseView) × IsOf names files code view × (n < length view) × (is_proof_at view n ≡ true)
    × IsSpotIn (said_at view n).proof spot

-- such a base has a sound `$p` with this number, and the verdict on its proof is this, by some names
abbrev pub HasVerdictOf : FilesView → Base → ℕ → Verdict → Type 0
HasVerdictOf files code n verdict =
    (names : List (List ℕ)) × (view : BaseView) × IsOf names files code view × (n < length view) × (is_proof_at view n ≡ true)
    × IsVerdictAt view n verdict

-- there is what the code's base answers, by some names, and what a check of its theorems says
abbrev pub HasChecked : FilesView → Base → List Kept → Type 0
HasChecked files code checked = (names : List (List ℕ)) × (view : BaseView) × IsOf names files code view × AreChecked view checked

-- there is what the code's base answers, and what a check of its theorems says; and it has an item with this number
abbrev pub HasCheckedItem : FilesView → Base → List Kept → ℕ → Type 0
HasCheckedItem files code checked n =
    (names : List (List ℕ)) × (view : BaseView) × IsOf names files code view × AreChecked view checked × (n < length view)

-- the byte with this number of the text of an item has this place, of which word it may be
abbrev pub IsPlaceIn : FilesView → store.Item → ℕ → At → Type 0
IsPlaceIn files item byte at =
    (word letter : ℕ) (read : CanBeRead files item) → word_start (slice_get read.words word) + letter ≡ byte → HasKeyedPlace files item word letter at
