-- Between files before and files after there is one list of runs.
use Rattle.std.proofs.Common.{◌≡◌, ℕ, List, subst₂, Contains}
use Rattle.mm_proof.specs.{mm_statement.Language.{Database.{Located}, Laws.{FilesHaveOneDatabase}}, mm_frame.Language.Base.{BaseView, base_of}}
use Rattle.mm_keep.{specs.Language.{Runs.{AreRuns}, Laws.{OneListOfRuns}}, proofs.NumberLemmas.{one_rising}}

among : (old new : BaseView) (runs copies : List ℕ) → AreRuns old new runs → AreRuns old new copies → (k : ℕ) → Contains runs k → Contains copies k
among old new runs copies r s k h = (s.each k).1 ((r.each k).0 h)

pub one_list : FilesHaveOneDatabase → OneListOfRuns
one_list one before after top runs copies r s =
    let old : s.old ≡ r.old = one before top s.old r.old s.were r.were in
    let new : s.new ≡ r.new = one after top s.new r.new s.are r.are in
    let those = subst₂ (λ (was is : List Located). AreRuns (base_of was) (base_of is) copies) old new s.those in
    one_rising runs copies r.those.rising those.rising
    (among (base_of r.old) (base_of r.new) runs copies r.those those) (among (base_of r.old) (base_of r.new) copies runs those r.those)
