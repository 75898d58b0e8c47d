use Rattle.std.proofs.{lemmas.Grind.{common_steps}, Common.{min, arith, ◌∙◌}}
use Rattle.mm_machine.proofs.lemmas.machine.CopyLemmas.{copied_block, mapped_copy, source_stays}
use Rattle.mm_machine.proofs.kept.CodedSymbolKept.copy_on.Goals as goal

pub loop-n-preserved : goal.loop-n-preserved
loop-n-preserved c = record {
  within = omega arith;
  count = c.block_on.ensures.count ∙ c.loop-n.invariant.count;
  so_far = copied_block _ c.args.all.now c.loop-n.all c.loop-n.all _ _ _ c.loop-n.n 4 _ c.loop-n-test.true (omega arith) c.loop-n.invariant.so_far c.block_on.ensures.copied
      (source_stays c.args.all.now c.loop-n.all _ c.args.to _ _ (min c.loop-n.n c.args.len) (omega arith) (omega arith) c.loop-n.invariant.so_far);
}

pub returns-clause-copied : goal.returns-clause-copied
returns-clause-copied c = grind (arith, common_steps, mapped_copy) steps 200000
