use Rattle.std.proofs.Common.{◌∙◌, ap, sym}
use Rattle.mm_frame.specs.{Language.{Base.{frame_at}, Answering.{pairs_in_order}}, Code.{KeptShared.{shared_values}, KeptSparse.{value_kept}}}
use Rattle.mm_frame.proofs.lemmas.base.AnswerLemmas.{lent_told, frame_in, hypotheses_told, order_told}
use Rattle.mm_frame.proofs.base.Base.kept_frame.Goals as goal

pub returns : goal.returns
returns c = record {
  numbers = λ base is. let frames = shared_values c.self.inside.parts.frames in
      let told = frame_in is.0 base c.args.self.now frames (ap (λ a. a.frames) c.self.view_is) is.1 c.args.i in
      lent_told (λ frame. frame.now) (λ frame. frame.hypotheses.items) c.at.result (value_kept frames c.args.i) c.at.ensures ∙ sym (hypotheses_told (value_kept frames c.args.i)) ∙ told.hypotheses;
  order = λ names base is. let frames = shared_values c.self.inside.parts.frames in
      order_told names (pairs_in_order (frame_at base c.args.i)) c.at.result (value_kept frames c.args.i) c.at.ensures (frame_in names base c.args.self.now frames (ap (λ a. a.frames) c.self.view_is) is c.args.i).pairs;
}
