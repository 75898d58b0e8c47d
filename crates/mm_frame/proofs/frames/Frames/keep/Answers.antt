use Rattle.std.proofs.{Common.{◌++◌, ◌∷◌, [], refl, ap, ◌∙◌}, lemmas.Result.{on_ok_weaker}}
use Rattle.mm_frame.specs.Code.KeptFrames.{frames_kept}
use Rattle.mm_frame.proofs.frames.Frames.keep.Goals as goal

pub returns-in-Some-clause-kept : goal.returns-in-Some-clause-kept
returns-in-Some-clause-kept c =
    let equal = c.in-Some.ensures in
    on_ok_weaker c.share.result (λ added. record {
      kept = equal.kept;
      hypotheses = equal.hypotheses;
      pairs = equal.pairs;
      added = added ∙ ap (λ frame. frames_kept c.args.self.now ++ frame ∷ []) equal.there;
    }) c.share.ensures

pub returns-clause-kept : goal.returns-clause-kept
returns-clause-kept c = on_ok_weaker c.add.result (λ added. record { kept = c.args.frame; hypotheses = refl; pairs = refl; added = added }) c.add.ensures
