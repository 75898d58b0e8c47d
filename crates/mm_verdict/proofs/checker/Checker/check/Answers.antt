use Rattle.std.proofs.Common.{◌≡◌, true}
use Rattle.mm_frame.specs.Language.Base.{BaseView, is_proof_at}
use Rattle.mm_verdict.{specs.Language.ReadIn.{IsReadIn}, proofs.lemmas.base.SaysLemmas.{read_at, theorem_at}}
use Rattle.mm_verdict.proofs.checker.Checker.check.Goals as goal

pub item-requires : goal.item-requires
item-requires c = let has = c.requires.theorem in rw c.base-base.ensures (has.0, (_, has.1.base), has.2)

pub words_of_proof-proof-requires : goal.words_of_proof-proof-requires
words_of_proof-proof-requires c = read_at _ _ _ _ c.item.result.now c.requires.theorem (rw c.base-base.ensures at c.item.ensures.found)

pub judge-requires : goal.judge-requires
judge-requires c =
    let has = c.requires.theorem in
    let found = rw c.base-base.ensures at c.item.ensures.found in
    rw c.widen.ensures (has.0, theorem_at _ _ _ _ c.item.result.now _ has.0 has.1 has.3 found c.words_of_proof-proof.ensures.words, has.2)

pub returns-clause-check : goal.returns-clause-check
returns-clause-check c =
    let found = rw c.base-base.ensures at c.item.ensures.found in
    let says = rw c.widen.ensures at c.in_ok-checked.ensures.says in
    let at = λ (view : BaseView) (is : IsReadIn c.args.names.now c.args.files.now c.args.self.now view) (proof : is_proof_at view c.args.i ≡ true).
    says view (theorem_at _ _ _ _ c.item.result.now _ view is proof found c.words_of_proof-proof.ensures.words) in
    record {
      verdict = λ view is proof. (at view is proof).verdict;
      cites = λ view is proof. (at view is proof).cites;
      run = c.in_ok-record.ensures.runs;
      room = c.in_ok-record.ensures.room;
      done = λ view is proof. (c.in_ok-checked.done, (at view is proof).done, c.in_ok-checked.ensures.few, c.in_ok-record.ensures.steps);
      memory = tt;
    }
