use Rattle.std.proofs.Common.{[], sym, subst}
use Rattle.mm_frame.{specs.{Language.Answering.{AreRows}, Code.KeptAssertions.{TellsFrame, TellsPairs, TellsReach}}, proofs.lemmas.base.BaseLemmas.{rows_none}}
use Rattle.mm_frame.proofs.assertions.Assertions.with_room.Goals as goal

pub returns : goal.returns
returns c = λ all. record {
  frames = record {
    kept = subst (AreRows (TellsFrame all) []) (sym c.in_ok-frames.ensures.0) (rows_none (TellsFrame all));
    reaches = subst (AreRows TellsReach []) (sym c.in_ok-frames.ensures.1) (rows_none TellsReach);
  };
  by_count = c.in_ok-pair_lists.ensures all;
  pair_numbers = subst (AreRows (TellsPairs all c.in_ok-pair_lists.pair_lists) []) (sym c.in_ok-pair_numbers.ensures) (rows_none (TellsPairs all c.in_ok-pair_lists.pair_lists));
  room = c.new.ensures all;
}
