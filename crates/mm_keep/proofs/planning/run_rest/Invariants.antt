use Rattle.std.proofs.Common.{◌≡◌, ◌≤◌, ◌+◌, ◌*◌, length}
use Rattle.mm_proof.specs.{mm_frame.Language.Base.{BaseView}, mm_verdict.Language.ReadIn.{IsReadIn}}
use Rattle.mm_keep.specs.Code.Planned.{AreRunBy, AreRecorded}
use Rattle.mm_keep.proofs.planning.run_rest.Given as goal

abbrev pub invariant-loop-j : goal.invariant-loop-j
invariant-loop-j l = record {
  base : l.checker ≡ l.base;
  count : length l.checked ≡ l.j;
  room : l.count ≤ l.work.room + l.j;
  steps : l.work.steps ≤ 4294967295 * l.j;
  checked : (view : BaseView) → IsReadIn l.names l.files l.base view → AreRunBy view l.plan l.checked;
  recorded : (view : BaseView) → IsReadIn l.names l.files l.base view → AreRecorded view l.plan l.j l.work;
}
