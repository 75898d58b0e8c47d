use Rattle.std.proofs.{Common.{refl, ℕ, List, ◌≡◌, true}, lemmas.Result.{err_from_is_err_and}}
use Rattle.mm_verdict.{specs.{Language.{DecodedSteps.{decoded_steps, entry_steps}, ReadIn.{IsReadIn}}, Code.Judged.{IsDecoding}}, proofs.lemmas.base.SaysLemmas.{read_at, theorem_at}}
use Rattle.mm_verdict.proofs.{lemmas.{decoding.DecodedProofs.{decoded_saved}, machine.NamedLemmas.{named_by}}, program.program_of.Goals.{In_ok-decoding}}
use Rattle.mm_frame.specs.Language.Base.{BaseView, is_proof_at}
use Rattle.mm_verdict.proofs.program.program_of.Goals as goal

pub item-requires : goal.item-requires
item-requires c = let has = c.requires.1 in (has.0, (c.requires.0, has.1.base), has.2)

pub words_of_proof-proof-requires : goal.words_of_proof-proof-requires
words_of_proof-proof-requires c = read_at c.requires.0 c.args.files.now c.args.base.now c.args.i c.item.result.now c.requires.1 c.item.ensures.found

-- what decoding gave for the theorem
the_decoding : (c : In_ok-decoding) (names : List (List ℕ)) (view : BaseView) → IsReadIn names c.args.files.now c.args.base.now view →
    is_proof_at view c.args.i ≡ true → IsDecoding c.args.base.now c.args.i c.words_of_proof-proof.result c.in_ok-decoding.decoding view
the_decoding c names view read proof =
    c.in_ok-decoding.ensures.ok view (theorem_at _ _ _ _ c.item.result.now _ view read proof c.item.ensures.found c.words_of_proof-proof.ensures.words)

pub decode-requires : goal.decode-requires
decode-requires c = let has = c.requires.1 in (has.0, theorem_at _ _ _ _ c.item.result.now _ has.0 has.1 has.3 c.item.ensures.found c.words_of_proof-proof.ensures.words, has.2)

pub name_all-requires : goal.name_all-requires
name_all-requires c =
    let has = c.requires.1 in
    let is = the_decoding (goal.at.name_all-requires c).In_ok-decoding c.requires.0 has.0 has.1 has.3 in
    record {
      known = c.new-known.ensures c.args.base.now;
      labels = rw c.deref.ensures.value (named_by c.args.base.now has.0 c.args.i is.theorem.base c.in_ok-decoding.decoding.labels.items is.entries);
    }

pub returns-clause-items : goal.returns-clause-items
returns-clause-items c j some = (c.in_ok-name_all.ensures.of_base.loaded j some).0.1

pub returns-clause-numbers : goal.returns-clause-numbers
returns-clause-numbers c k d l = (c.in_ok-name_all.ensures.cited k d l).item

pub returns-clause-citable : goal.returns-clause-citable
returns-clause-citable c k d l = (c.in_ok-name_all.ensures.cited k d l).citable

pub returns-clause-saved : goal.returns-clause-saved
returns-clause-saved c =
    let has = c.requires.1 in
    decoded_saved c.mandatory_are_active.ensures c.decodes_surely.ensures _ _ _ _ _
    (the_decoding (goal.at.returns-clause-saved c).In_ok-decoding c.requires.0 has.0 has.1 has.3)

pub returns-clause-means : goal.returns-clause-means
returns-clause-means c names view read proof =
    let is = the_decoding (goal.at.returns-clause-means c).In_ok-decoding names view read proof in
    let d = c.in_ok-decoding.decoding in
    let labels = d.labels.items in
    record {
      labels = entry_steps view labels;
      decoded = decoded_steps view d c.words_of_proof-proof.result;
      decodes = is.decodes;
      steps = refl;
      uses = (rw c.deref.ensures.value at c.in_ok-name_all.ensures.means) names view read.base c.args.i is.entries;
    }

pub returns-in_err-decoding-clause-fault : goal.returns-in_err-decoding-clause-fault
returns-in_err-decoding-clause-fault c =
    let p = err_from_is_err_and c.from_residual.result c.from_residual.ensures.1 in
    rw (p.1, p.2) (λ names view read proof. c.in_err-decoding.ensures.err view (theorem_at _ _ _ _ c.item.result.now _ view read proof c.item.ensures.found c.words_of_proof-proof.ensures.words))
