use Rattle.mm_frame.proofs.lemmas.{base.BaseLemmas.{ordered_pairs, ordered_numbered}, frames.FrameNumbers.{frame_means, frame_is, framed_some}}
use Rattle.mm_frame.proofs.base.Base.frame.Goals as goal

pub returns : goal.returns
returns c = record {
  some = λ base is. framed_some (λ frame. frame.now.hypotheses.items) c.kept_frame.result base c.args.i (c.kept_frame.ensures.numbers base is);
  means = λ base is. frame_means (λ frame. frame.now.hypotheses.items) base c.args.i c.kept_frame.result (c.kept_frame.ensures.numbers base is);
  numbers = λ base is. frame_is (λ frame. frame.now.hypotheses.items) base c.args.i c.kept_frame.result (c.kept_frame.ensures.numbers base is);
  pairs = λ names base is. let some = framed_some (λ frame. frame.now.hypotheses.items) c.kept_frame.result base c.args.i (c.kept_frame.ensures.numbers base (names, is)) in
      ordered_pairs names (λ frame. frame.now.pairs.items) base c.args.i c.kept_frame.result some (c.kept_frame.ensures.order names base is);
  numbered = λ names base is. ordered_numbered names (λ frame. frame.now.pairs.items) base c.args.i c.kept_frame.result (c.kept_frame.ensures.order names base is);
  order = c.kept_frame.ensures.order;
}
