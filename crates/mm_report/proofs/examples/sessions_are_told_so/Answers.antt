use Rattle.std.proofs.Common.{rules}
use Rattle.mm_report.proofs.ExampleLemmas.{counts_each, findings_are_seen, finds_last, has_six_items, last_is_derivable, last_rests_on_axiom, refuses_so, writes_lines}
use Rattle.mm_report.proofs.examples.sessions_are_told_so.Goals as goal

pub returns : goal.returns
returns c = search (rules, counts_each, findings_are_seen, finds_last, has_six_items, last_is_derivable, last_rests_on_axiom, refuses_so, writes_lines)
