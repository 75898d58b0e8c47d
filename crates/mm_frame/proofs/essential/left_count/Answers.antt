use Rattle.std.proofs.Common.{◌≡◌, suc, ◌-◌, ◌<◌, false, drop, arith, refl, sym, subst, inl, inr, Contains}
use Rattle.mm_frame.{specs.declared.essential.EssentialVariable.{EssentialVariable}, proofs.lemmas.frames.VariableLemmas.{one_dropped}}
use Rattle.mm_frame.proofs.essential.left_count.Goals as goal

pub loop-count-preserved : goal.loop-count-preserved
loop-count-preserved c =
    let found = c.args.found.now in
    let count = c.loop-count.count in
    let next : suc (count - 1) ≡ count = omega arith in
    let none : EssentialVariable = record { number = 0; symbol = record { name = 0; variable = false } } in
    record {
      within = omega arith;
      dropped = λ rising v there n e. elim (one_dropped found (count - 1) v none (omega arith) there) [
        | inl same ↦ subst (λ (k : EssentialVariable). n < k.number) (sym same) (c.if-is_later.ensures refl rising n e)
        | inr h ↦ c.loop-count.invariant.dropped rising v (subst (λ k. Contains (drop k found) v) next h) n e
      ];
    }
