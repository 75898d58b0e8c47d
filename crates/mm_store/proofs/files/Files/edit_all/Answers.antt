use Rattle.std.proofs.{lemmas.Grind.{common_steps}, Common.{◌+◌, map, sym, subst, arith, take}}
use Rattle.mm_store.specs.Language.{Batches.{IsSpendable, KeepsReading}, EditedKeys.{IsBatchByKeys}, FilesView.{plain}}
use Rattle.mm_store.proofs.lemmas.edits.RefusedLemmas.{batch_error, batch_next, by_keys_next, mapped_there, keys_then, reads_alike}
use Rattle.mm_text.specs.Language.Asked.{asked}
use Rattle.mm_store.proofs.files.Files.edit_all.Goals as goal

pub undo_all-requires : goal.undo_all-requires
undo_all-requires c = (
  c.args.self.now,
  subst (IsSpendable c.args.self.now c.edit_next.new.self) (sym c.in-Err.ensures.kept)
      (subst (λ view. IsSpendable c.args.self.now view c.loop-number.undos) (sym c.in-Err.ensures.unchanged) c.loop-number.invariant.spendable),
)

pub returns-in-Err-clause-err : goal.returns-in-Err-clause-err
returns-in-Err-clause-err c = grind (arith, common_steps, batch_error, mapped_there) steps 200000

pub returns-in-Err-clause-unchanged : goal.returns-in-Err-clause-unchanged
returns-in-Err-clause-unchanged c = grind (arith, common_steps, c.undo_all.ensures) steps 200000

pub loop-number-preserved : goal.loop-number-preserved
loop-number-preserved c = record {
  by_keys =
      let made = c.in_default.ensures.by_keys in
      subst (IsBatchByKeys (take (c.loop-number.number + 1) (map asked c.args.edits.now)) c.args.self.now c.edit_next.new.self) (sym made.2)
      (by_keys_next c.args.edits.now c.loop-number.number _ c.args.self.now c.loop-number.self c.edit_next.new.self c.loop-number.undos made.0 c.loop-number-test.true c.loop-number.invariant.by_keys made.1);
  done = batch_next c.args.edits.now c.loop-number.number _ (plain c.args.self.now) (plain c.loop-number.self) (plain c.edit_next.new.self) c.loop-number-test.true c.loop-number.invariant.done c.in_default.ensures.ok;
  keys = keys_then c.args.self.now c.loop-number.self c.edit_next.new.self c.loop-number.invariant.keys c.in_default.ensures.keys;
  spendable = c.in_default.ensures.spendable c.args.self.now c.loop-number.invariant.spendable;
}

pub returns-clause-reading : goal.returns-clause-reading
returns-clause-reading c = subst (KeepsReading c.args.self.now) (sym c.restart_all.ensures) (reads_alike c.args.self.now c.loop-number.self c.loop-number.invariant.keys)

pub returns-clause-spendable : goal.returns-clause-spendable
returns-clause-spendable c = subst (λ view. IsSpendable c.args.self.now view c.loop-number.undos) (sym c.restart_all.ensures) c.loop-number.invariant.spendable
