use Rattle.std.proofs.Common.{subst}
use Rattle.mm_proof.specs.mm_frame.Language.Base.{base_of}
use Rattle.mm_keep.specs.Language.{Derivable.{IsDerivableAt}, Findings.{told}, Told.{IsRightlyTold}}
use Rattle.mm_keep.proofs.session.Session.verdict.Goals as goal

pub returns-in-Some-clause-ok : goal.returns-in-Some-clause-ok
returns-in-Some-clause-ok c =
    let session = c.args.self.now in
    let a = c.in-Some.ensures.some in
    let f = c.finding.ensures.found in
    let same = c.files_have_one_database.ensures session.files session.top f.0 a.0 f.1 a.1 in
    (a.0, a.1, c.in-Some.i, a.2, subst (λ items. IsRightlyTold session.files items c.in-Some.i (told c.finding.result)) same f.2)

pub returns-in-Some-clause-derived : goal.returns-in-Some-clause-derived
returns-in-Some-clause-derived c is =
    let session = c.args.self.now in
    let a = c.in-Some.ensures.some in
    let d = c.finding.ensures.derived is in
    let same = c.files_have_one_database.ensures session.files session.top d.0 a.0 d.1 a.1 in
    (a.0, a.1, (c.in-Some.i, a.2, subst (λ items. IsDerivableAt (base_of items) c.in-Some.i) same d.2))
