-- What is reported of the items of files: for each whether it is at fault, an axiom or a theorem, and the verdict on its proof; and how
-- many there are of each.
use Rattle.std.specs.Prelude.{◌≡◌, ◌+◌, ℕ, true, false, Bool, Some, List, length, slice_get, count_by}
use Rattle.mm_proof.specs.mm_store.Language.FilesView.{File}
use Rattle.mm_proof.specs.mm_statement.Language.Database.{Located}
use Rattle.mm_proof.specs.mm_frame.Language.Base.{BaseView, base_of, fault_at, is_sound_at, is_proof_at, said_at}
use Rattle.mm_proof.specs.mm_statement.Language.Item.{Axiom, is_assertion}
use Rattle.mm_proof.specs.mm_frame.declared.FrameNumber.{FrameNumber}
use Rattle.mm_proof.specs.mm_verdict.Language.VerdictAt.{IsVerdictAt}
use Rattle.mm_proof.specs.mm_machine.declared.Spot.{Spot}
use Rattle.mm_proof.specs.mm_machine.declared.Verdict.{Verdict}
use Rattle.mm_proof.specs.mm_machine.declared.Verdict.TheVariants as verdicts
use Rattle.mm_proof.specs.mm_machine.declared.ProofNumber.{ProofNumber}
use Rattle.mm_keep.specs.declared.finding.At.{At}
use Rattle.mm_keep.specs.Language.WordPlaces.{spelled, HasPlace, IsPlaceOfSpot}

-- A word as a line of the report shows it: its place, and how it is spelled.
pub record Shown : Type 0 where
  pub at : At
  pub word : List ℕ

-- What is reported of an item: nothing; that it is an axiom; of a theorem, that its proof is proved, is incomplete at a place, or is wrong
-- by a number at a place; or its fault, by its number and the word that it is reported at.
pub data Told : Type 0 where
  Quiet : Told
  AnAxiom : Told
  Proved : Told
  Incomplete : At → Told
  Wrong : ProofNumber → At → Told
  Fault : FrameNumber → Shown → Told

-- the word with this number of an item is shown with its place and its spelling
pub record IsShown (files : List File) (item : Located) (word : ℕ) (shown : Shown) : Type 0 where
  pub has_place : HasPlace files item word 0 shown.at
  pub is_word : shown.word ≡ spelled (slice_get item.words word)

-- the item with this number has this fault, shown at the word that has it
pub record IsFaultOf (files : List File) (items : List Located) (n : ℕ) (number : FrameNumber) (shown : Shown) : Type 0 where
  pub word : ℕ
  pub fault : fault_at (base_of items) n ≡ Some (word, number)
  pub item : Located
  pub there : slice_get items n ≡ Some item
  pub is_shown : IsShown files item word shown

-- the item with this number is sound, and no assertion
pub record IsQuiet (view : BaseView) (n : ℕ) : Type 0 where
  pub sound : is_sound_at view n ≡ true
  pub kind : is_assertion (said_at view n).kind ≡ false

-- the item with this number is a sound `$a`
pub record IsAxiom (view : BaseView) (n : ℕ) : Type 0 where
  pub sound : is_sound_at view n ≡ true
  pub kind : (said_at view n).kind ≡ Axiom

-- the item with this number is a sound `$p`, and this is the verdict on its proof
pub record HasProofVerdict (view : BaseView) (n : ℕ) (verdict : Verdict) : Type 0 where
  pub proof : is_proof_at view n ≡ true
  pub is_verdict : IsVerdictAt view n verdict

-- the item with this number is a sound `$p`, the verdict on its proof names a spot, and that spot has this place
pub record HasVerdictShown (files : List File) (items : List Located) (n : ℕ) (verdict : Spot → Verdict) (at : At) : Type 0 where
  pub spot : Spot
  pub has_verdict : HasProofVerdict (base_of items) n (verdict spot)
  pub is_place : IsPlaceOfSpot files items n spot at

-- this is what is rightly reported of the item with this number: by its fault, its kind, or the verdict on its proof
abbrev pub IsRightlyTold : List File → List Located → ℕ → Told → Type 0
IsRightlyTold files items n Quiet = IsQuiet (base_of items) n
IsRightlyTold files items n AnAxiom = IsAxiom (base_of items) n
IsRightlyTold files items n Proved = HasProofVerdict (base_of items) n verdicts.Proved
IsRightlyTold files items n (Incomplete at) = HasVerdictShown files items n verdicts.Incomplete at
IsRightlyTold files items n (Wrong number at) = HasVerdictShown files items n (verdicts.Wrong number) at
IsRightlyTold files items n (Fault number shown) = IsFaultOf files items n number shown

-- this is what is rightly reported of all items, one for each, in order
pub record AreRightlyTold (files : List File) (items : List Located) (all : List Told) : Type 0 where
  pub count : length all ≡ length items
  pub each : (n : ℕ) (one : Told) → slice_get all n ≡ Some one → IsRightlyTold files items n one

-- it is reported that the item is an axiom
abbrev pub is_axiom : Told → Bool
is_axiom AnAxiom = true
is_axiom _ = false

-- it is reported that the proof of the item is proved
abbrev pub is_proved : Told → Bool
is_proved Proved = true
is_proved _ = false

-- it is reported that the proof of the item is incomplete
abbrev pub is_incomplete : Told → Bool
is_incomplete (Incomplete at) = true
is_incomplete _ = false

-- it is reported that the proof of the item is wrong
abbrev pub is_wrong : Told → Bool
is_wrong (Wrong number at) = true
is_wrong _ = false

-- a fault of the item is reported
abbrev pub is_fault : Told → Bool
is_fault (Fault number shown) = true
is_fault _ = false

-- How many there are: axioms; theorems, and of these the proved, the incomplete and the wrong; and faults.
pub record Counts : Type 0 where
  pub axioms : ℕ
  pub theorems : ℕ
  pub proved : ℕ
  pub incomplete : ℕ
  pub wrong : ℕ
  pub faults : ℕ

-- how often each is reported. A theorem is one whose proof is proved, incomplete or wrong
abbrev pub counts : List Told → Counts
counts all = record {
  axioms = count_by is_axiom all;
  theorems = count_by is_proved all + count_by is_incomplete all + count_by is_wrong all;
  proved = count_by is_proved all;
  incomplete = count_by is_incomplete all;
  wrong = count_by is_wrong all;
  faults = count_by is_fault all;
}
