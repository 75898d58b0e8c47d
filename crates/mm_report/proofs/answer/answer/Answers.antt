use Rattle.std.proofs.Common.{rules}
use Rattle.mm_report.proofs.AskedLemmas.{answered_stop, kept_whole}
use Rattle.mm_report.proofs.answer.answer.Goals as goal

pub returns-in_err-flush : goal.returns-in_err-flush
returns-in_err-flush g c one is = search (rules, answered_stop, kept_whole)
