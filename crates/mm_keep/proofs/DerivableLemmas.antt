-- What is proved can be derived: the labels of its proof derive its statement.
use Rattle.std.proofs.Common.{◌≡◌, ℕ, subst}
use Rattle.mm_proof.specs.{mm_frame.Language.Base.{base_of}, mm_verdict.Language.ItemLaws.{ProvedIsDerivedAt}}
use Rattle.mm_keep.specs.Language.{Derivable.{IsDerivable}, Laws.{ProvedIsDerivable}, Sessions.{SessionView, IsFinding}, Told.{Told, Proved, IsRightlyTold}}

pub proved_is_derivable : ProvedIsDerivedAt → ProvedIsDerivable
proved_is_derivable law files items i told = let derived = (law (base_of items) i).0 told.is_verdict in record { theorem = told.proof; labels = derived.2.0.labels; derive = derived.2.2 }

pub found_derivable : ProvedIsDerivedAt → (session : SessionView) (i : ℕ) (told : Told) → IsFinding session i told → told ≡ Proved → IsDerivable session i
found_derivable law session i told found is =
    (found.0, found.1, proved_is_derivable law session.files found.0 i (subst (IsRightlyTold session.files found.0 i) is found.2))
