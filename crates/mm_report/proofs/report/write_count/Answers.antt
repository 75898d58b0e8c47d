use Rattle.std.proofs.{Common.{arith}, lemmas.Grind.{common_steps}}
use Rattle.mm_report.proofs.StreamLemmas.{stops_front, writes_then, writes_stop}
use Rattle.mm_report.proofs.report.write_count.Goals as goal

pub returns-in_err-write_all : goal.returns-in_err-write_all
returns-in_err-write_all g c = grind (arith, common_steps, stops_front, writes_stop) steps 200000

pub returns : goal.returns
returns g c = grind (arith, common_steps, writes_then c.in_ok-write_all.ensures.writes c.write_number.ensures) steps 200000
