use Rattle.std.proofs.Common.{Err, ap}
use Rattle.mmkeep.proofs.PerformLemmas.{lists_there, stops_axioms}
use Rattle.mmkeep.proofs.performing.list_axioms.Goals as goal

pub returns-in-Ok-true-clause-done : goal.returns-in-Ok-true-clause-done
returns-in-Ok-true-clause-done g c =
    lists_there c.args.session.now c.args.label.now c.as_bytes.result.now _ _ c.as_bytes.ensures.value c.in-Ok-true.ensures.answer
    (c.in-Ok-true.ensures.there.0 c.in-Ok-true.field-0-test)

pub returns-in-Err-clause-stopped : goal.returns-in-Err-clause-stopped
returns-in-Err-clause-stopped g c =
    stops_axioms c.args.session.now c.args.label.now c.as_bytes.result.now g.W.Write.contents c.args.writing.now c.write_axioms.new.writing c.in-Err.error c.as_bytes.ensures.value
    c.in-Err.ensures.told
    (λ e. c.in-Err.ensures.write (ap Err e)) (λ e. c.in-Err.ensures.memory (ap Err e)) (λ e none. c.in-Err.ensures.known none (ap Err e))
