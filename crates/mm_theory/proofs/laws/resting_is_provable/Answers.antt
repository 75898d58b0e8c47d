use Rattle.mm_theory.proofs.Resting.{provable_by}
use Rattle.mm_theory.proofs.laws.resting_is_provable.Goals as goal

pub returns : goal.returns
returns c = provable_by
    (record {
      stand = c.sound_items_stand.ensures;
      read = c.floats_are_typings.ensures;
      agree = c.floats_agree.ensures;
      typed = c.assertions_have_frames.ensures.floats;
      mandatory = c.mandatory_stand_before.ensures;
    })
    (record {
      one = c.labels_mean.ensures.one;
      assertions = c.labels_mean.ensures.assertions;
      active = c.hypotheses_mean.ensures.active;
      ended = c.hypotheses_mean.ensures.ended;
      pairs = c.assertions_have_frames.ensures.pairs;
      two = c.pairs_are_of_two.ensures;
    })
