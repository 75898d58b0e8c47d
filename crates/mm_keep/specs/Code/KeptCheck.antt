-- What is kept of the checks of proofs.
use Rattle.std.specs.Prelude.{◌≡◌, ◌<◌, ℕ, List, Option, Some, None, length, map, slice_get}
use Rattle.mm_proof.specs.mm_verdict.Language.Work.{Judgement}
use Rattle.mm_keep.specs.declared.checks.KeptCheck.TheInside.{Inside as KeptCheck}
use Rattle.mm_keep.specs.declared.checks.Checks.TheInside.{Inside}

-- what a check said
abbrev pub judgement_kept : KeptCheck → Judgement
judgement_kept check = record { verdict = check.verdict; cites = check.cites.items }

-- what is kept of an item: nothing; or a place, which has what the check of its proof said, or is free for that
abbrev pub Kept : Type 0
Kept = Option (Option Judgement)

-- what the check of its proof said, if that is kept
abbrev pub said : Kept → Option Judgement
said None = None
said (Some place) = place

-- what is kept at a place, if there is one
abbrev pub kept_at : List (Option Judgement) → Option ℕ → Kept
kept_at checks None = None
kept_at checks (Some place) = slice_get checks place

-- what is kept of each item
abbrev pub all_kept : Inside → List Kept
all_kept inside = map (kept_at inside.checks.items) inside.places

-- the places of items in a list of this many checks: no two items have one place
pub record IsPlaced (places : List (Option ℕ)) (count : ℕ) : Type 0 where
  pub within : (k place : ℕ) → slice_get places k ≡ Some (Some place) → place < count
  pub once : (j k place : ℕ) → slice_get places j ≡ Some (Some place) → slice_get places k ≡ Some (Some place) → j ≡ k

abbrev pub ArePlaces : Inside → Type 0
ArePlaces inside = IsPlaced inside.places (length inside.checks.items)
