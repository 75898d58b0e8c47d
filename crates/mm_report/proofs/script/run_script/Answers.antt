use Rattle.std.proofs.{Common.{arith}, lemmas.Grind.{common_steps}}
use Rattle.mm_script.specs.{declared.error.ScriptError.{ScriptError}, Language.Stream.{unread, written}}
use Rattle.mm_report.{specs.Code.Answered.{StopsAnswering}, proofs.LoopLemmas.{if_err_is, none_answered, when_err}}
use Rattle.mm_report.proofs.script.run_script.Goals as goal

pub loop-input-init : goal.loop-input-init
loop-input-init g c = grind (arith, common_steps, none_answered c.args.session.now (unread g.R.Read.remaining c.args.reading.now) (written g.W.Write.contents c.args.writing.now)) steps 200000

pub returns-in_err-answer_next : goal.returns-in_err-answer_next
returns-in_err-answer_next g c =
    let all = unread g.R.Read.remaining c.args.reading.now in
    let before = written g.W.Write.contents c.args.writing.now in
    let next = c.answer_next.new in
    let P = StopsAnswering g.R.Read.remaining g.W.Write.contents c.args.session.now next.session all next.reading before next.writing in
    let fails = if_err_is c.from_residual.result P c.in_err-answer_next.field-0.0 c.from_residual.ensures.1
    (c.in_err-answer_next.ensures.err c.args.session.now all before c.loop-input.invariant) in
    let stops = λ (error : ScriptError). when_err c.from_residual.result P error fails in
    grind (arith, common_steps) steps 200000

pub loop-input-preserved : goal.loop-input-preserved
loop-input-preserved g c =
    grind (arith, common_steps, c.in_ok-answer_next.ensures.ok c.args.session.now (unread g.R.Read.remaining c.args.reading.now) (written g.W.Write.contents c.args.writing.now) c.loop-input.invariant) steps 200000

pub returns-clause-done : goal.returns-clause-done
returns-clause-done g c =
    grind (arith, common_steps, c.in_ok-answer_next.ensures.ok c.args.session.now (unread g.R.Read.remaining c.args.reading.now) (written g.W.Write.contents c.args.writing.now) c.loop-input.invariant) steps 200000
