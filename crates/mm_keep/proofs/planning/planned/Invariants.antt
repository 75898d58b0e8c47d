use Rattle.std.proofs.Common.{◌≡◌, ◌<◌, ℕ, length}
use Rattle.mm_proof.specs.mm_frame.Language.Base.{BaseView}
use Rattle.mm_keep.specs.Code.Planned.{AreBothRead, IsPlanned, kept_by}
use Rattle.mm_keep.proofs.planning.planned.Given as goal

abbrev pub invariant-loop-j : goal.invariant-loop-j
invariant-loop-j l = record {
  count : length l.plan ≡ l.j;
  each : (base copy : BaseView) → AreBothRead l.names l.files l.old l.new base copy → (k : ℕ) → k < l.j → IsPlanned base copy k (kept_by l.plan k);
}
