use Rattle.std.proofs.Common.{rules}
use Rattle.mm_script.specs.declared.command.Question.TheVariants.{Axioms, Cites, Users}
use Rattle.mm_report.proofs.AskedLemmas.{answered_stop}
use Rattle.mm_report.proofs.answer.answer_question.Goals as goal

pub returns-in_err-write_verdict-in-Verdict : goal.returns-in_err-write_verdict-in-Verdict
returns-in_err-write_verdict-in-Verdict g c = search (rules, answered_stop)

pub returns-in-Axioms : goal.returns-in-Axioms
returns-in-Axioms g c = rw c.in-Axioms.is (c.write_list.ensures Axioms c.args.label.now c.axioms.ensures.ok c.axioms.ensures.none.0)

pub returns-in-Cites : goal.returns-in-Cites
returns-in-Cites g c = rw c.in-Cites.is (c.write_list-in-Cites.ensures Cites c.args.label.now c.cites.ensures.ok c.cites.ensures.none.0)

pub returns-in-Users : goal.returns-in-Users
returns-in-Users g c = rw c.in-Users.is (c.write_list-in-Users.ensures Users c.args.label.now c.users.ensures.ok c.users.ensures.none.0)
