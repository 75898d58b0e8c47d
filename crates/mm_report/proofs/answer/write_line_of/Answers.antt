use Rattle.std.proofs.{Common.{rules, arith}, lemmas.Grind.{common_steps}}
use Rattle.mm_report.proofs.StreamLemmas.{stops_front, writes_then, writes_stop}
use Rattle.mm_report.proofs.answer.write_line_of.Goals as goal

pub returns-in_err-write_part : goal.returns-in_err-write_part
returns-in_err-write_part g c = search (rules, stops_front, writes_stop)

pub returns : goal.returns
returns g c = grind (arith, common_steps, writes_then c.in_ok-write_part.ensures c.write_all.ensures.writes) steps 200000
