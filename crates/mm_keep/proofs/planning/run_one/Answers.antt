use Rattle.std.proofs.Common.{◌≡◌, true, is_some, inl, sym, ◌∙◌, ap, subst}
use Rattle.mm_proof.specs.{mm_frame.{declared.base.Base.{Base}, Language.Base.{is_proof_at}}, mm_machine.declared.Verdict.{Verdict}, mm_verdict.Language.{ReadIn.{IsReadIn}, VerdictAt.{IsVerdictAt}}}
use Rattle.mm_proof.specs.mm_verdict.Language.Work.{Judgement}
use Rattle.mm_keep.proofs.planning.run_one.Goals as goal

pub returns-in_ok-of-in-Some-clause-one : goal.returns-in_ok-of-in-Some-clause-one
returns-in_ok-of-in-Some-clause-one c view is =
    let source = c.args.source in
    let read = subst (λ (code : Base). IsReadIn source.names.now source.files.now code view) (sym c.requires.base) is in
    let theorem : is_proof_at view c.args.j ≡ true = sym (c.pairs.ensures.some view (source.names.now, is.base)) ∙ ap is_some c.in-Some.is in
    let told = c.in_ok-checked-in-Some.ensures.check in
    let kept = c.in_ok-of-in-Some.ensures in
    (theorem, subst (λ (v : Verdict). IsVerdictAt view c.args.j v) (sym (ap (λ (one : Judgement). one.verdict) kept)) (told.verdict view read theorem), ap (λ (one : Judgement). one.cites) kept ∙ told.cites view read theorem)

pub returns-in_ok-of-in-Some-clause-work : goal.returns-in_ok-of-in-Some-clause-work
returns-in_ok-of-in-Some-clause-work c view is =
    let source = c.args.source in
    let read = subst (λ (code : Base). IsReadIn source.names.now source.files.now code view) (sym c.requires.base) is in
    let theorem : is_proof_at view c.args.j ≡ true = sym (c.pairs.ensures.some view (source.names.now, is.base)) ∙ ap is_some c.in-Some.is in
    let told = c.in_ok-checked-in-Some.ensures.check in
    let done = told.done view read theorem in
    inl (theorem, record { runs = told.run; room = told.room; count = done.0; done = done.1; few = done.2; steps = done.3 })
