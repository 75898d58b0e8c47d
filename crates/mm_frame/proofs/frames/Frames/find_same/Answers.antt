use Rattle.std.proofs.Common.{Some, refl, sym, ◌∙◌, ap}
use Rattle.mm_frame.proofs.frames.Frames.find_same.Goals as goal

pub returns-then-has_hypotheses : goal.returns-then-has_hypotheses
returns-then-has_hypotheses c = record {
  frame = c.in_ok-frame.frame.now;
  there = sym c.in_ok-frame.ensures;
  hypotheses_are = c.if-has_hypotheses.ensures refl;
  reach_there = sym c.in_ok-found.ensures ∙ ap Some c.if-found-reach.true;
}
