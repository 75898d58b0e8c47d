use Rattle.std.proofs.Common.{◌≡◌, length}
use Rattle.mm_proof.specs.mm_frame.Language.Base.{BaseView}
use Rattle.mm_keep.{specs.Code.Planned.{CanCarry}, proofs.CarryLemmas.{AreCarried}}
use Rattle.mm_keep.proofs.planning.carry.Given as goal

abbrev pub invariant-loop-j : goal.invariant-loop-j
invariant-loop-j l = record {
  count : length l.old ≡ length l.initial.old;
  long : length l.new ≡ length l.initial.new;
  carried : (base copy : BaseView) → CanCarry base copy l.initial.old l.plan l.initial.new → AreCarried base copy l.plan l.j l.old l.new;
}
