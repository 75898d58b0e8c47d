use Rattle.std.proofs.Common.{refl, sym}
use Rattle.mm_proof.{specs.Code.TwoTheorems.{MeansSame}, proofs.LabelLoops.{OfListed, one_listed, one_more, not_first}}
use Rattle.mm_proof.proofs.view.same_listed.Goals as goal

pub returns-then-not-same_label : goal.returns-then-not-same_label
returns-then-not-same_label c base copy f g =
    let P = MeansSame c.args.two base copy in
    let one = one_listed P c.loop-word.words c.next_word.new.self c.in-Some.word.now c.in-Some.ensures (sym c.if-is_close.ensures) in
    not_first _ (P c.in-Some.word.now) _ (OfListed P c.args.words) one (c.if-not-same_label.ensures base copy f g) (c.loop-word.invariant base copy f g)

pub loop-word-preserved : goal.loop-word-preserved
loop-word-preserved c base copy f g =
    let P = MeansSame c.args.two base copy in
    let one = one_listed P c.loop-word.words c.next_word.new.self c.in-Some.word.now c.in-Some.ensures (sym c.if-is_close.ensures) in
    one_more _ _ _ (OfListed P c.args.words) one ((c.if-not-same_label.ensures base copy f g).0 refl) (c.loop-word.invariant base copy f g)
