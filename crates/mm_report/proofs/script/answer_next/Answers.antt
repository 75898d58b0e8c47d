use Rattle.std.proofs.Common.{arith, ◌≡◌, sym, subst, drop, true}
use Rattle.mm_script.specs.Language.{Commands.{pending, IsCommandIn}, Stream.{unread, written}}
use Rattle.mm_report.{specs.Code.Answered.{StopsAnswering}, proofs.LoopLemmas.{answer_stops, done_answered, goes_on, if_err_is, next_stops, reads_on}}
use Rattle.mm_report.proofs.script.answer_next.Goals.{then-next, else-next}
use Rattle.mm_report.proofs.script.answer_next.Goals as goal

pub returns-in_err-next-clause-err : goal.returns-in_err-next-clause-err
returns-in_err-next-clause-err g c begun all before so =
    let next = c.next_command in
    let had = reads_on c.readings_join.ensures c.commands_leave_nothing.ensures begun c.args.session.now all (unread g.R.Read.remaining c.args.reading.now)
    before (written g.W.Write.contents c.args.writing.now) (unread g.R.Read.remaining next.new.reading)
    c.args.input.now next.new.input next.ensures.reads so in
    if_err_is c.from_residual.result (StopsAnswering g.R.Read.remaining g.W.Write.contents begun c.args.session.now all next.new.reading before c.args.writing.now) c.in_err-next.field-0.0 c.from_residual.ensures.1
    (next_stops c.readings_join.ensures c.commands_leave_nothing.ensures g.R.Read.remaining g.W.Write.contents begun c.args.session.now all before next.new.input next.new.reading c.args.writing.now next.result had
    next.ensures.bad next.ensures.cut next.ensures.read next.ensures.failed next.ensures.told c.in_err-next.field-0.0 c.in_err-next.was)

pub returns-in_default-clause-ok : goal.returns-in_default-clause-ok
returns-in_default-clause-ok g c begun all before so =
    let next = c.next_command in
    let had = reads_on c.readings_join.ensures c.commands_leave_nothing.ensures begun c.args.session.now all (unread g.R.Read.remaining c.args.reading.now)
    before (written g.W.Write.contents c.args.writing.now) (unread g.R.Read.remaining next.new.reading)
    c.args.input.now next.new.input next.ensures.reads so in
    let none = c.in_ok-next.ensures.none c.in_default.is in
    done_answered c.readings_join.ensures c.commands_leave_nothing.ensures begun c.args.session.now all (unread g.R.Read.remaining next.new.reading)
    before (written g.W.Write.contents c.args.writing.now) (pending next.new.input) none.0 none.1 had

pub returns-in_err-answer-clause-err : goal.returns-in_err-answer-clause-err
returns-in_err-answer-clause-err g c begun all before so =
    let next = c.next_command in
    let had = reads_on c.readings_join.ensures c.commands_leave_nothing.ensures begun c.args.session.now all (unread g.R.Read.remaining c.args.reading.now)
    before (written g.W.Write.contents c.args.writing.now) (unread g.R.Read.remaining next.new.reading)
    c.args.input.now next.new.input next.ensures.reads so in
    let is = rw c.in-Some.is at c.in_ok-next.ensures.found in
    let command = subst (λ bytes. IsCommandIn bytes c.in-Some.next.found is.command) (sym c.pending.ensures) is.is_command in
    if_err_is c.from_residual-in_err-answer.result (StopsAnswering g.R.Read.remaining g.W.Write.contents begun c.answer.new.session all
    next.new.reading before c.answer.new.to) c.in_err-answer.field-0.0 c.from_residual-in_err-answer.ensures.1
    (answer_stops c.readings_join.ensures c.commands_leave_nothing.ensures g.R.Read.remaining g.W.Write.contents begun c.args.session.now all before
    next.new.input next.new.reading c.args.writing.now c.in-Some.next is c.answer.new.session c.answer.new.to had
    c.in_err-answer.field-0.0 (c.in_err-answer.ensures is.command command).err)

pub returns-clause-ok : goal.returns-clause-ok
returns-clause-ok g c begun all before so =
    let next = c.next_command in
    let had = reads_on c.readings_join.ensures c.commands_leave_nothing.ensures begun c.args.session.now all (unread g.R.Read.remaining c.args.reading.now)
    before (written g.W.Write.contents c.args.writing.now) (unread g.R.Read.remaining next.new.reading)
    c.args.input.now next.new.input next.ensures.reads so in
    let is = rw c.in-Some.is at c.in_ok-next.ensures.found in
    let command = subst (λ bytes. IsCommandIn bytes c.in-Some.next.found is.command) (sym c.pending.ensures) is.is_command in
    let passed : c.in-Some.next.fed ≡ true → pending c.if-next.input ≡ drop c.in-Some.next.end (pending next.new.input) = grind (arith, then-next, else-next) steps 200000 in
    goes_on c.readings_join.ensures c.commands_leave_nothing.ensures g.R.Read.remaining g.W.Write.contents begun c.args.session.now all before
    next.new.input next.new.reading c.args.writing.now c.in-Some.next is c.answer.new.session c.answer.new.to c.if-next.input had
    (c.in_ok-answer.ensures is.command command).ok passed
