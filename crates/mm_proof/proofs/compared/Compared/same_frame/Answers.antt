use Rattle.std.proofs.{Common.{sym, ◌∙◌}, lemmas.Bool.{false≢true}}
use Rattle.mm_frame.specs.Language.Base.{ShareMandatory}
use Rattle.mm_proof.proofs.{ComparedLemmas.{answered, answered_more, mandatory_shared, of_frames}, TheoremLemmas.{shown_framed}}
use Rattle.mm_proof.proofs.compared.Compared.same_frame.Goals as goal

pub returns-then-not-same_expression-clause-same : goal.returns-then-not-same_expression-clause-same
returns-then-not-same_expression-clause-same c names base copy f g = (
  λ e. absurd (false≢true e),
  λ s. sym c.if-not-same_expression.true ∙ (c.same_expression.ensures names base copy f g (shown_framed base c.args.i s.was) (shown_framed copy c.args.j s.is)).1 s.same.expression,
)

pub returns-in-Some-clause-same : goal.returns-in-Some-clause-same
returns-in-Some-clause-same c names base copy f g =
    let found = c.in-Some-Some in
    let was = sym (found.ensures.some base (names, f)) in
    let is = sym (found.ensures'.some copy (names, g)) in
    of_frames base copy c.args.i c.args.j c.same_expression.result c.in-Some.same.now was is c.if-not-same_expression.false (c.same_expression.ensures names base copy f g)
    (c.requires.compared.frames (found.mine, found.yours) c.in-Some.same.now (sym c.in-Some.ensures.value) c.args.i c.args.j found.ensures.number found.ensures'.number names base copy f g)

pub returns-clause-compared : goal.returns-clause-compared
returns-clause-compared c =
    let found = c.in-Some-Some in
    let old = c.args.old.now in
    let new = c.args.new.now in
    let same = c.same_mandatory-same.result in
    let right = answered old new (λ answers. answers.frame_numbers) ShareMandatory mandatory_shared c.args.i c.args.j (found.mine, found.yours) same
    (λ names base copy f g. c.same_mandatory-same.ensures names base copy f g (sym (found.ensures.some base (names, f))) (sym (found.ensures'.some copy (names, g)))) found.ensures.same found.ensures'.same in
    record {
      frames = answered_more old new (λ answers. answers.frame_numbers) ShareMandatory c.args.self.now.frames c.insert.new.self (found.mine, found.yours) same right (λ other. c.in_ok-insert.ensures.updates.0 other) c.requires.compared.frames;
      lists = c.requires.compared.lists;
    }

pub returns-clause-same : goal.returns-clause-same
returns-clause-same c names base copy f g =
    let was = sym (c.in-Some-Some.ensures.some base (names, f)) in
    let is = sym (c.in-Some-Some.ensures'.some copy (names, g)) in
    of_frames base copy c.args.i c.args.j c.same_expression.result c.same_mandatory-same.result was is c.if-not-same_expression.false (c.same_expression.ensures names base copy f g)
    (c.same_mandatory-same.ensures names base copy f g was is)
