use Rattle.std.proofs.{Common.{arith, ◌&&◌, ◌∙◌, sym, subst}, lemmas.Grind.{common_steps}}
use Rattle.mm_statement.specs.Language.Item.{is_assertion, is_kind, Theorem}
use Rattle.mm_frame.{specs.{Language.Sound.{fault, sound_items, judged}, Code.{KeptAnswers.{KnowsAnswers}, KeptPairLists.{AreListsFor}}}, proofs.lemmas.base.BaseLemmas.{kept_are_sound}}
use Rattle.mm_frame.proofs.lemmas.{faults.FoundFaults.{kept_next}, pairs.{PairAnswerLemmas.{answers_more}, PairListLemmas.{lists_more}}}
use Rattle.mm_frame.proofs.assertions.Assertions.keep.Goals as goal

pub returns : goal.returns
returns c all said one known disjoints kind sound parts a =
    let before = sound_items said in
    let more = sym (kept_next said one) in
    let framed = (c.is_framed.ensures ∙ (λ i. sym sound i && is_assertion (kind i)) ∙ (grind (arith, common_steps) steps 200000)) in
    let by_count = c.in_ok-keep_pairs.ensures.by_count all before (kept_are_sound said) known.symbols disjoints a.by_count in
    record {
      frames = c.in_ok-keep_frame.ensures.frames all said one known a.room disjoints framed (λ t. parts (sym c.is_framed.ensures ∙ t)) a.frames;
      by_count = subst (λ w. AreListsFor all w c.keep_pairs.new.pair_lists) more (lists_more all before _ c.keep_pairs.new.pair_lists by_count);
      pair_numbers =
          c.in_ok-keep_pairs.ensures.pairs all said one known.symbols disjoints a.by_count
          (c.has_proof.ensures ∙ (λ i. sym sound i && is_kind Theorem (kind i)) ∙ (grind (arith, common_steps) steps 200000)) a.pair_numbers;
      room = subst (λ w. KnowsAnswers all w c.keep_frame.new.room.answers) more (answers_more all before (judged one (fault before one)) c.keep_frame.new.room.answers (c.in_ok-keep_frame.ensures.answers all before known a.room));
    }
