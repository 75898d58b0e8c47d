use Rattle.std.proofs.{Common.{get_or, arith}, lemmas.Option.{slice_get-get_or}}
use Rattle.mm_frame.specs.Language.Base.{hypothesis_at}
use Rattle.mm_proof.proofs.KeptMarkLemmas.{same_more, same_whole}
use Rattle.mm_proof.proofs.mark.are_marked.Goals as goal

pub loop-k-init : goal.loop-k-init
loop-k-init c old new are names base copy f g m x y l p q = absurd (omega (arith, l))

pub loop-k-preserved : goal.loop-k-preserved
loop-k-preserved c old new are names base copy f g =
    let mine = c.args.mine.now in
    let yours = c.args.yours.now in
    let k = c.loop-k.k in
    let p = slice_get-get_or mine k 0 (omega arith) in
    let q = slice_get-get_or yours k 0 (omega arith) in
    same_more (hypothesis_at base) (hypothesis_at copy) mine yours k (get_or mine k 0) (get_or yours k 0) (c.loop-k.invariant old new are names base copy f g) p q
    (c.is_marked.ensures c.if-not-is_marked.false old new are names base copy f g)

pub returns : goal.returns
returns c t old new are names base copy f g = same_whole (hypothesis_at base) (hypothesis_at copy) c.args.mine.now c.args.yours.now (λ m x y l p q. c.loop-k.invariant old new are names base copy f g m x y (omega arith) p q) (omega arith)
