use Rattle.std.proofs.{Common.{arith}, lemmas.Grind.{common_steps}}
use Rattle.mm_script.proofs.GrowLemmas.{feed_here, grows_then, other_byte}
use Rattle.mm_script.proofs.script_lines.read_text.Goals as goal

pub returns-then-byte-ne10-clause-bad : goal.returns-then-byte-ne10-clause-bad
returns-then-byte-ne10-clause-bad g c = grind (arith, common_steps, other_byte) steps 200000

pub returns-in-Some-clause-feed : goal.returns-in-Some-clause-feed
returns-in-Some-clause-feed g c = grind (arith, common_steps, feed_here) steps 200000

pub returns-then-not-branch-clause-grows : goal.returns-then-not-branch-clause-grows
returns-then-not-branch-clause-grows g c = grows_then _ _ _ _ _ _ c.loop-byte.invariant.grows c.in_ok-read_on.ensures.grows
