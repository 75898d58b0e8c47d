use Rattle.std.specs.Prelude.{◌≡◌, ◌≤◌}
use Rattle.mm_frame.specs.Language.{Base.{BaseView}, Answering.{IsBase}}
use Rattle.mm_proof.specs.Code.InStep.{AreOrdinals, ordinal}
use Rattle.mm_proof.proofs.ordinals.ordinals_of.Given as goal

abbrev pub invariant-loop-n : goal.invariant-loop-n
invariant-loop-n l = record {
  few : l.ordinal ≤ l.n;
  are : (view : BaseView) → IsBase view l.base → AreOrdinals view l.n l.numbers.items × (l.ordinal ≡ ordinal view l.n);
}
