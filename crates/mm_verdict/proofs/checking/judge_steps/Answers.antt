use Rattle.std.{proofs.{lemmas.List.{length-map}, Common.{◌≡◌, ◌<◌, ◌≤◌, ℕ, List, length, sym, ◌∙◌, ap, subst, arith}}, specs.List.{AllByRecursion, flat_map}}
use Rattle.mm_frame.specs.Language.Base.{said_at}
use Rattle.mm_verdict.specs.{Language.{BaseLabels.{setting_at}, VerdictAt.{mandatory_labels, statement_at}, DecodedSteps.{decoded_steps, entry_steps}}, Code.Judged.{done_by}}
use Rattle.mm_verdict.proofs.lemmas.decoding.DecodedProofs.{done_says}
use Rattle.mm_machine.specs.{Language.NamedSteps.{meant, actions_mean}, declared.step.ProofStep.{ProofStep}}
use Rattle.mm_verdict.proofs.checking.judge_steps.Goals as goal

pub returns-clause-says : goal.returns-clause-says
returns-clause-says c view is =
    let i = c.args.proof.i in
    let d = c.args.proof.decoding.now in
    let place = setting_at view i in
    let names = entry_steps view d.labels.items in
    let steps = actions_mean names d.steps.items in
    let says = c.in_ok-outcome.ensures.says view is in
    let on = rw c.again.ensures.words at (c.verdict-verdict.ensures view place (statement_at view i) says) in
    let many : length steps ≡ c.len.result = omega (arith, c.len.ensures, d.steps.ok, length-map d.steps.items (λ (step : ProofStep). meant names step.action)) in
    let done = ap (λ n. done_by n c.in_ok-outcome.outcome) many ∙ sym c.steps_done-done.ensures.value in
    record {
      verdict = rw (ap (λ j. j.verdict) c.new.ensures, is.decodes) on;
      cites = ap (λ j. j.cites) c.new.ensures ∙ c.in_ok-cites.ensures view is;
      done = rw is.decodes (rw done at (done_says place (statement_at view i) steps c.in_ok-outcome.outcome says));
    }

pub returns-clause-few : goal.returns-clause-few
returns-clause-few c =
    let has = c.requires.decoded in
    let view = has.0 in
    let i = c.args.proof.i in
    let d = c.args.proof.decoding.now in
    let names = entry_steps view d.labels.items in
    let same = sym has.1.theorem.says in
    let some = subst (λ (ws : List (List ℕ)). AllByRecursion (λ word. 0 < length word) ws) same c.again.ensures.some in
    let bytes = subst (λ (ws : List (List ℕ)). length (flat_map (λ word. word) ws) ≤ 4294967295) same c.again.ensures.bytes in
    let short = c.decodes_short.ensures (setting_at view i) (mandatory_labels view i) (said_at view i).proof (decoded_steps view d c.args.proof.words.now) some has.1.decodes in
    omega (arith, c.steps_done-done.ensures.within, c.len.ensures, d.steps.ok, length-map d.steps.items (λ (step : ProofStep). meant names step.action))

pub verdict-verdict-requires-clause-within : goal.verdict-verdict-requires-clause-within
verdict-verdict-requires-clause-within c = c.in_ok-outcome.ensures.within
