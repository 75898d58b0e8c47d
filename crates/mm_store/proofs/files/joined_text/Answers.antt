use Rattle.std.{proofs.{lemmas.Grind.{common_steps}, Common.{◌≡◌, suc, ◌∷◌, is_some, true, length, get_or, ap, subst, arith}}, specs.VecDeque.Iter.{deque_iter_rest}}
use Rattle.std.specs.FinMap as finite
use Rattle.mm_store.proofs.files.joined_text.Goals as goal

pub loop-key-preserved : goal.loop-key-preserved
loop-key-preserved c =
    let p = c.args.pieces.now in
    let at = c.loop-key in
    let rest = deque_iter_rest c.next.new.self in
    let steps : deque_iter_rest at.key-iterator ≡ c.in-Some.key.now ∷ rest = c.in-Some.ensures.steps in
    record {
      text = grind (arith, common_steps) steps 200000;
      there = λ i d lt. subst (λ ks. is_some (finite.get p (get_or ks (suc i) d)) ≡ true) steps (at.invariant.there (suc i) d (omega (arith, lt, ap length steps)));
    }
