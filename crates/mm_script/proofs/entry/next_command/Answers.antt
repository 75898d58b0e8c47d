use Rattle.std.proofs.{Common.{arith}, lemmas.Grind.{common_steps}}
use Rattle.mm_script.proofs.{GrowLemmas.{reads_then, same_error}, StopLemmas.{no_feed}}
use Rattle.mm_script.proofs.entry.next_command.Goals as goal

pub returns-in_err-line-clause-read : goal.returns-in_err-line-clause-read
returns-in_err-line-clause-read g c = grind (arith, common_steps, c.in_err-line.ensures.read, no_feed, same_error) steps 200000

pub returns-in_err-read_command-clause-reads : goal.returns-in_err-read_command-clause-reads
returns-in_err-read_command-clause-reads g c = reads_then _ _ _ _ _ _ c.in_ok-line.ensures.reads c.in_err-read_command.ensures.grows

pub returns-clause-reads : goal.returns-clause-reads
returns-clause-reads g c = reads_then _ _ _ _ _ _ c.in_ok-line.ensures.reads c.in_ok-read_command.ensures.grows
