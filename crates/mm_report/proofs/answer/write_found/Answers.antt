use Rattle.std.proofs.Common.{Err, ap, ◌∙◌, rules}
use Rattle.mm_script.specs.Language.Script.{Ask}
use Rattle.mm_report.proofs.AskedLemmas.{answered_ok, answered_stop, finds_items, found_is, unknown_is}
use Rattle.mm_report.proofs.answer.write_found.Goals as goal

pub returns-in_err-write_all-in-NoAssertion-clause-answers : goal.returns-in_err-write_all-in-NoAssertion-clause-answers
returns-in_err-write_all-in-NoAssertion-clause-answers g c question label finds lacks =
    let session = c.args.session.now in
    answered_stop g.W.Write.contents (Ask question label) session session c.args.to.now c.write_all.new.self c.from_residual-in_err-write_all-in-NoAssertion.result _
    c.from_residual-in_err-write_all-in-NoAssertion.ensures.1
    (unknown_is session question label (lacks (c.in-Err.is ∙ ap Err c.in-NoAssertion.is))) c.in_err-write_all-in-NoAssertion.ensures.writes.err

pub returns-in_err-write_labels-in-Ok-clause-answers : goal.returns-in_err-write_labels-in-Ok-clause-answers
returns-in_err-write_labels-in-Ok-clause-answers g c question label finds lacks =
    let session = c.args.session.now in
    let found = rw c.in-Ok.is at finds in
    let items = finds_items session question label c.in-Ok.numbers.items found in
    let stops = rw c.deref.ensures.value at (c.in_err-write_labels-in-Ok.ensures items.0 items.1).err in
    answered_stop g.W.Write.contents (Ask question label) session session c.args.to.now c.write_labels.new.to c.from_residual.result _ c.from_residual.ensures.1
    (found_is session question label c.in-Ok.numbers.items found items.0 items.1) stops

pub returns-in_ok-write_labels-in-Ok-clause-answers : goal.returns-in_ok-write_labels-in-Ok-clause-answers
returns-in_ok-write_labels-in-Ok-clause-answers g c question label finds lacks =
    let session = c.args.session.now in
    let found = rw c.in-Ok.is at finds in
    let items = finds_items session question label c.in-Ok.numbers.items found in
    let out = rw c.deref.ensures.value at (c.in_ok-write_labels-in-Ok.ensures items.0 items.1).ok in
    answered_ok g.W.Write.contents (Ask question label) session session c.args.to.now c.write_labels.new.to _ _
    (found_is session question label c.in-Ok.numbers.items found items.0 items.1) out

pub returns-in-Memory-clause-answers : goal.returns-in-Memory-clause-answers
returns-in-Memory-clause-answers g c = search rules
