-- What a session keeps: its files, the base of these, and what the check of each sound theorem said.
use Rattle.std.specs.Prelude.{◌≡◌, ℕ, true, false, Option, Some, None, List, length, slice_get}
use Rattle.mm_proof.specs.mm_store.Language.FileFacts.{parked_in}
use Rattle.mm_proof.specs.mm_store.Language.FilesView.{plain}
use Rattle.mm_proof.specs.mm_frame.Language.Base.{BaseView, IsOfFiles, is_proof_at}
use Rattle.mm_proof.specs.mm_frame.Language.Answering.{IsBaseBy, StandsLater}
use Rattle.mm_proof.specs.mm_verdict.Language.VerdictAt.{IsVerdictAt, cites_at}
use Rattle.mm_proof.specs.mm_verdict.Language.Work.{Judgement}
use Rattle.mm_keep.specs.Code.KeptCheck.{Kept}
use Rattle.mm_keep.specs.declared.session.Session.TheInside.{Inside}
use Rattle.mm_keep.specs.Language.Sessions.{SessionView}

-- this is what a check of the item with this number says: of a sound theorem, and of no other item
abbrev pub IsCheckedAt : BaseView → ℕ → Option Judgement → Type 0
IsCheckedAt base i None = is_proof_at base i ≡ false
IsCheckedAt base i (Some judgement) = (is_proof_at base i ≡ true) × IsVerdictAt base i judgement.verdict × (judgement.cites ≡ cites_at base i)

-- what is kept of the item with this number is what a check of it says; no place is free
abbrev pub IsKeptAt : BaseView → ℕ → Kept → Type 0
IsKeptAt base i None = IsCheckedAt base i None
IsKeptAt base i (Some None) = ⊥
IsKeptAt base i (Some (Some judgement)) = IsCheckedAt base i (Some judgement)

-- this holds of each item
pub record AreChecked (base : BaseView) (checked : List Kept) : Type 0 where
  pub count : length checked ≡ length base
  pub each : (i : ℕ) (one : Kept) → slice_get checked i ≡ Some one → IsKeptAt base i one

abbrev pub session_view : Inside → SessionView
session_view inside = record { files = plain inside.files; top = inside.top.items }

pub record IsSessionKept (inside : Inside) : Type 0 where
  pub base : BaseView
  pub of_files : IsOfFiles inside.files inside.top.items inside.base.items base
  pub by_names : IsBaseBy inside.names base inside.base
  pub later : StandsLater inside.names base inside.base
  pub checked : AreChecked base inside.checked
  pub parked : parked_in inside.files ≡ 0
