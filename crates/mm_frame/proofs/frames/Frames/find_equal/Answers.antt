use Rattle.std.proofs.Common.{refl, sym}
use Rattle.mm_frame.proofs.frames.Frames.find_equal.Goals as goal

pub returns-then-are_equal : goal.returns-then-are_equal
returns-then-are_equal c = record {
  kept = c.in_ok-kept.kept.now;
  there = sym c.in_ok-kept.ensures;
  hypotheses = (c.if-are_equal.ensures refl).0;
  pairs = (c.if-are_equal.ensures refl).1;
}
