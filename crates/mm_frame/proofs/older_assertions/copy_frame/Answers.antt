use Rattle.std.{proofs.{Common.{◌≡◌, Some, IfSome, [], append-nil, ◌∙◌, ap, sym, subst}, lemmas.Result.{on_ok_weaker}}, specs.{Option.{option_map}, Prelude.{MatchBool}}}
use Rattle.mm_frame.specs.{Language.{Sound.{sound_items}, Framing.{frame}, Answering.{pairs_in_order}}, Code.{KeptAssertions.{AreFrames}, KeptFrames.{AddsSame}, KeptPairLists.{AreFrontNumbers}}}
use Rattle.mm_frame.proofs.lemmas.frames.SharedFrames.{frames_equal, frames_none, frames_same}
use Rattle.mm_machine.specs.Language.NumberedSymbols.{ArePairsRead}
use Rattle.mm_frame.proofs.older_assertions.copy_frame.Goals as goal

pub returns-in_default : goal.returns-in_default
returns-in_default c all said item symbols disjoints numbers pairs are =
    frames_none all said item c.args.frames.now c.pass.new.self c.in_ok-pass.ensures are (sym (ap (option_map (λ frame. frame.now.hypotheses.items)) c.in_default.is) ∙ numbers)

pub returns-then-branch : goal.returns-then-branch
returns-then-branch c all said item symbols disjoints numbers pairs are =
    let before = sound_items said in
    let old = c.args.frames.now in
    let new = c.add_same.new.self in
    let hypotheses = c.deref.result.now in
    let r = c.count_to_last-reach.result in
    let told = sym (ap (option_map (λ frame. frame.now.hypotheses.items)) c.in-Some.is) ∙ numbers in
    let reach = subst (λ w. AreFrontNumbers before w r) disjoints (c.count_to_last-reach.ensures all before [] symbols (append-nil c.args.active.numbers.now ∙ disjoints)) in
    let same = subst (λ b. MatchBool b (AddsSame old new hypotheses r) (new ≡ old)) c.if-branch.true c.in_ok-add_same.ensures in
    frames_same all said item old new hypotheses r same are (ap Some c.deref.ensures.value ∙ told) reach

pub returns : goal.returns
returns c = on_ok_weaker c.add.result (λ added all said item symbols disjoints numbers pairs are.
    let before = sound_items said in
    let old = c.args.frames.now in
    let new = c.add_same.new.self in
    let r = c.count_to_last-reach.result in
    let read = subst (λ o. IfSome o (λ kept. ArePairsRead all (pairs_in_order (frame before item)) kept.now.pairs.items)) c.in-Some.is pairs in
    let reach = subst (λ w. AreFrontNumbers before w r) disjoints (c.count_to_last-reach.ensures all before [] symbols (append-nil c.args.active.numbers.now ∙ disjoints)) in
    let same = subst (λ b. MatchBool b (AddsSame old new c.deref.result.now r) (new ≡ old)) c.if-branch.false c.in_ok-add_same.ensures in
    frames_equal all said item new c.add.new.self _ r added (subst (AreFrames all said) (sym same) are) (record {
      hypotheses = ap Some (c.in_ok-hypotheses.ensures.items ∙ c.deref-2.ensures.value) ∙ sym (ap (option_map (λ frame. frame.now.hypotheses.items)) c.in-Some.is) ∙ numbers;
      pairs = subst (ArePairsRead all (pairs_in_order (frame before item))) (sym (c.in_ok-pairs.ensures.items ∙ c.deref-3.ensures.value)) read;
    }) reach) c.add.ensures
