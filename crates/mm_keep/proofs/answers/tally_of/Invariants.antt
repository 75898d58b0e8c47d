use Rattle.std.proofs.Common.{◌≡◌, ℕ, List}
use Rattle.mm_proof.specs.mm_frame.Language.Base.{BaseView}
use Rattle.mm_keep.{specs.{Language.{Findings.{counted}, Told.{Told, counts}}, Code.{KeptSession.{AreChecked}, OfFiles.{IsOf}}}, proofs.ToldLemmas.{ToldUpTo}}
use Rattle.mm_keep.proofs.answers.tally_of.Given as goal

abbrev pub invariant-loop-i : goal.invariant-loop-i
invariant-loop-i l =
    (names : List (List ℕ)) (view : BaseView) → IsOf names l.files l.base view → AreChecked view l.checked → (all : List Told) × ToldUpTo l.files l.base.items view l.i all × (counted l.tally ≡ counts all)
