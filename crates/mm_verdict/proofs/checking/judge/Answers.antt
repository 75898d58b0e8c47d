use Rattle.std.proofs.{Common.{ap, subst, ◌∙◌}, lemmas.Result.{IfOk-weaker}}
use Rattle.mm_verdict.{specs.Language.{DecodedSteps.{TellsFault}, VerdictAt.{decoding_at}}, proofs.lemmas.decoding.DecodedProofs.{fault_judged}}
use Rattle.mm_verdict.proofs.checking.judge.Goals as goal

pub judge_steps-judged-requires-clause-decoded : goal.judge_steps-judged-requires-clause-decoded
judge_steps-judged-requires-clause-decoded c = let has = c.requires.proof in (has.0, c.in-Ok.ensures.ok has.0 has.1, has.2)

pub returns-in-Ok-clause-says : goal.returns-in-Ok-clause-says
returns-in-Ok-clause-says c = IfOk-weaker c.judge_steps-judged.result _ _ (λ judged says view theorem. says view (c.in-Ok.ensures.ok view theorem)) c.judge_steps-judged.ensures.says

pub returns-in_ok-fault-in-Err-clause-says : goal.returns-in_ok-fault-in-Err-clause-says
returns-in_ok-fault-in-Err-clause-says c view theorem =
    fault_judged view c.args.i c.in_ok-fault-in-Err.fault c.new-in-Err-2.result (ap (λ j. j.verdict) c.new-in-Err-2.ensures)
    (ap (λ j. j.cites) c.new-in-Err-2.ensures ∙ c.new-in-Err.ensures.items)
    (subst (λ e. TellsFault e (decoding_at view c.args.i)) c.in_ok-fault-in-Err.ensures (c.in-Err.ensures.err view theorem))
