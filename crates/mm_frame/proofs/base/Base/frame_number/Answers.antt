use Rattle.std.{proofs.Common.{◌≡◌, ℕ, sym, ◌∙◌, ap, subst}, specs.Prelude.{is_some}}
use Rattle.mm_frame.specs.{declared.frame.Frame.{Frame}, Code.{KeptBase.{frame_told}, KeptShared.{shared_values, value_at}, KeptSparse.{value_kept}}, Language.Answering.{IsBase, IsFrameTold}}
use Rattle.mm_frame.{specs.Language.Base.{BaseView, ShareMandatory, before, said_at}, proofs.lemmas.base.AnswerLemmas.{frame_in, frame_shared, hypotheses_told, number_shared, number_told}}
use Rattle.mm_frame.proofs.lemmas.{frames.FrameNumbers.{framed_some}, lists.SharedValues.{value_of}}
use Rattle.mm_frame.proofs.base.Base.frame_number.Goals as goal

pub returns : goal.returns
returns c =
    let shared = c.self.inside.parts.frames in
    let answers = c.args.self.now in
    let i = c.args.i in
    let frames = shared_values shared in
    let numbers = ap (λ a. a.frame_numbers) c.self.view_is in
    let place = c.place.ensures.place in
    let told = λ (base : BaseView) (is : IsBase base answers) (n : ℕ). frame_in is.0 base answers frames (ap (λ a. a.frames) c.self.view_is) is.1 n in
    record {
      some = λ base is. c.place.ensures.some
          ∙ framed_some (λ (frame : Frame). frame.hypotheses.items) (value_kept frames i) base i (sym (hypotheses_told (value_kept frames i)) ∙ (told base is i).hypotheses);
      number = number_told shared.places answers.frame_numbers i c.place.result place numbers;
      same = λ base is. number_shared shared.places answers.frame_numbers i c.place.result (ShareMandatory base base i) place numbers
          (λ j k mine yours.
          let one : value_kept frames j ≡ value_kept frames i = value_of shared.values shared.places j ∙ ap (value_at shared.values) (yours ∙ sym mine) ∙ sym (value_of shared.values shared.places i) in
          frame_shared is.0 base i j (value_kept frames i) (sym c.place.ensures.some ∙ ap is_some (place ∙ mine)) (told base is i)
          (subst (λ o. IsFrameTold is.0 (before base j) (said_at base j) (frame_told o)) one (told base is j)));
    }
