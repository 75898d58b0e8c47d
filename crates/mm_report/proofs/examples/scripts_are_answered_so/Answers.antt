use Rattle.std.proofs.Common.{rules}
use Rattle.mm_report.proofs.ExampleLemmas.{answers_five, begins_with_two, changes_one, counts_so, has_no_line, has_this_report, refuses_second, rests_on_one, runs_one}
use Rattle.mm_report.proofs.examples.scripts_are_answered_so.Goals as goal

pub returns : goal.returns
returns c =
    search (rules, answers_five c.commands_leave_nothing.ensures, begins_with_two, changes_one, counts_so, has_no_line, has_this_report, refuses_second, rests_on_one, runs_one)
