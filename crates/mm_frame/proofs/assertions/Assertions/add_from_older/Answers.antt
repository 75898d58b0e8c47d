use Rattle.std.proofs.Common.{IfSome, ◌∙◌, ap, sym, subst}
use Rattle.mm_frame.specs.{Language.{Sound.{fault, sound_items, judged}, Framing.{frame}, Base.{frame_at}, Answering.{pairs_in_order, told_numbers}}, Code.KeptAnswers.{KnowsAnswers}}
use Rattle.mm_frame.{specs.Code.{KeptBase.{hypotheses_at}, KeptPairLists.{AreListsFor}}, proofs.lemmas.{faults.FoundFaults.{kept_next}, pairs.PairAnswerLemmas.{answers_more}}}
use Rattle.mm_frame.proofs.lemmas.pairs.PairListLemmas.{lists_more}
use Rattle.mm_machine.specs.Language.NumberedSymbols.{ArePairsRead}
use Rattle.mm_frame.proofs.assertions.Assertions.add_from_older.Goals as goal

pub returns : goal.returns
returns c all base said one next number symbols disjoints a =
    let before = sound_items said in
    let more = sym (kept_next said one) in
    let numbers = c.kept_frame.ensures.numbers base (all, next.by) ∙ ap (hypotheses_at base) number ∙ (λ i. told_numbers (sound_items (next.front i)) (next.here i)) in
    let framed = ap (frame_at base) number ∙ (λ i. frame (sound_items (next.front i)) (next.here i)) in
    let pairs = subst (λ f. IfSome c.kept_frame.result (λ kept. ArePairsRead all (pairs_in_order f) kept.now.pairs.items)) framed (c.kept_frame.ensures.order all base next.by) in
    let by_count = c.in_ok-copy_pairs.ensures.by_count all base said one next number symbols disjoints a.pair_numbers a.by_count in
    record {
      frames = c.in_ok-copy_frame.ensures all said one symbols disjoints numbers pairs a.frames;
      by_count = subst (λ w. AreListsFor all w c.copy_pairs.new.lists) more (lists_more all before _ c.copy_pairs.new.lists by_count);
      pair_numbers = c.in_ok-copy_pairs.ensures.pairs all base said one next number symbols disjoints a.by_count a.pair_numbers;
      room = subst (λ w. KnowsAnswers all w c.args.self.now.room.answers) more (answers_more all before (judged one (fault before one)) c.args.self.now.room.answers a.room);
    }
