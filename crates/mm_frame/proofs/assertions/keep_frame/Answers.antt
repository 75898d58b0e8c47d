use Rattle.std.{proofs.{Common.{◌≡◌, Some, [], append-nil, ◌∙◌, ap, sym, subst}, lemmas.Result.{on_ok_weaker}}, specs.Prelude.{MatchBool}}
use Rattle.mm_frame.specs.{Language.{Sound.{sound_items}, Answering.{numbers_if}}, Code.{KeptAssertions.{AreFrames}, KeptFrames.{AddsSame}, KeptPairLists.{AreFrontNumbers}}}
use Rattle.mm_frame.proofs.lemmas.frames.SharedFrames.{frames_equal, frames_none, frames_same}
use Rattle.mm_frame.proofs.assertions.keep_frame.Goals as goal

pub returns-then-not-framed-clause-frames : goal.returns-then-not-framed-clause-frames
returns-then-not-framed-clause-frames c all said item known answers disjoints framed parts are =
    frames_none all said item c.args.frames.now c.pass.new.self c.in_ok-pass.ensures are (ap (λ b. numbers_if b (sound_items said) item) (sym c.if-not-framed.true ∙ framed))

pub returns-then-branch-clause-frames : goal.returns-then-branch-clause-frames
returns-then-branch-clause-frames c all said item known answers disjoints framed parts are =
    let before = sound_items said in
    let old = c.args.frames.now in
    let new = c.add_same.new.self in
    let hypotheses = c.deref.result.now in
    let r = c.count_to_last-reach.result in
    let numbers = c.deref.ensures.value ∙ c.in_ok-put_hypotheses.ensures all before item known (parts c.if-not-framed.false) in
    let reach = subst (λ w. AreFrontNumbers before w r) disjoints (c.count_to_last-reach.ensures all before [] known.symbols (append-nil c.args.disjoints.now ∙ disjoints)) in
    let same = subst (λ b. MatchBool b (AddsSame old new hypotheses r) (new ≡ old)) c.if-branch.true c.in_ok-add_same.ensures in
    frames_same all said item old new hypotheses r same are (ap Some numbers ∙ ap (λ b. numbers_if b before item) (sym c.if-not-framed.false ∙ framed)) reach

pub returns-clause-frames : goal.returns-clause-frames
returns-clause-frames c = on_ok_weaker c.add.result (λ added all said item known answers disjoints framed parts are.
    let before = sound_items said in
    let old = c.args.frames.now in
    let new = c.add_same.new.self in
    let r = c.count_to_last-reach.result in
    let numbers = c.in_ok-put_hypotheses.ensures all before item known (parts c.if-not-framed.false) in
    let reach = subst (λ w. AreFrontNumbers before w r) disjoints (c.count_to_last-reach.ensures all before [] known.symbols (append-nil c.args.disjoints.now ∙ disjoints)) in
    let same = subst (λ b. MatchBool b (AddsSame old new c.deref.result.now r) (new ≡ old)) c.if-branch.false c.in_ok-add_same.ensures in
    frames_equal all said item new c.add.new.self _ r added (subst (AreFrames all said) (sym same) are) (record {
      hypotheses = ap Some (c.in_ok-hypotheses.ensures.items ∙ c.deref-2.ensures.value ∙ numbers) ∙ ap (λ b. numbers_if b before item) (sym c.if-not-framed.false ∙ framed);
      pairs = c.in_ok-pairs.ensures.pairs all before item known answers numbers;
    }) reach) c.add.ensures
