use Rattle.std.{proofs.{Common.{◌≡◌, ◌∙◌, ap, map, ℕ, List, length, arith}, lemmas.{List.{length-map}, Result.{err_from_is_err_and}}}, specs.Borrow.{Bor}}
use Rattle.mm_verdict.specs.{Language.{DecodedSteps.{entry_step, entry_steps}, VerdictAt.{mandatory_labels}}, Code.{Judged.{IsTheorem}, Labels.{BeginsTable}}}
use Rattle.mm_verdict.proofs.lemmas.decoding.{LeftLemmas.{behind_open}, DecodeLemmas.{decodes_so, fails_so}, TableLemmas.{list_begins, compressed_ok, compressed_err, compressed_table}}
use Rattle.mm_verdict.proofs.{lemmas.base.FrameLemmas.{framed_proof}, reading.decode_compressed.Goals.{After-next_word-open}}
use Rattle.mm_frame.specs.Language.{Base.{BaseView, before, said_at}, Framing.{mandatory_numbers}}
use Rattle.mm_frame.specs.declared.base.Resolved.TheVariants as answers
use Rattle.mm_verdict.proofs.reading.decode_compressed.Goals as goal

-- the table after the `(`
begun : (c : After-next_word-open) (view : BaseView) → IsTheorem c.args.base.now c.args.i c.args.proof.now view →
    BeginsTable view c.args.i (mandatory_labels view c.args.i) c.args.proof.now c.next_word-open.new.self c.in_ok-labels.labels.items
begun c view theorem =
    let i = c.args.i in
    let words = c.args.proof.now in
    let word = λ (word : Bor (List ℕ)). word.now in
    let left = behind_open word words c.again-words.result c.next_word-open.new.self c.next_word-open.result c.requires.compressed c.again-words.ensures.words
    c.next_word-open.ensures in
    list_begins view i (mandatory_numbers (before view i) (said_at view i)) words c.next_word-open.new.self c.in_ok-labels.labels.items
    (c.in_ok-labels.ensures ∙ ap (map answers.Hypothesis) (c.mandatory.ensures view theorem.base (framed_proof view i theorem.is_sound)))
    (c.mandatory_are_active.ensures view i theorem.said) left

pub mandatory-requires : goal.mandatory-requires
mandatory-requires c = let has = c.requires.proof in (has.0, has.1.base, framed_proof has.0 c.args.i has.1.is_sound)

pub returns-in_err-close-clause-err : goal.returns-in_err-close-clause-err
returns-in_err-close-clause-err c =
    let p = err_from_is_err_and c.from_residual-in_err-close.result c.from_residual-in_err-close.ensures.1 in
    rw (p.1, p.2) (λ view theorem.
    fails_so view c.args.i c.args.proof.now theorem.says _
    (rw c.requires.compressed (c.in_err-close.ensures.err view (mandatory_labels view c.args.i) c.args.proof.now theorem.base
    (begun (goal.at.returns-in_err-close-clause-err c).After-next_word-open view theorem))))

pub returns-in_err-read-clause-err : goal.returns-in_err-read-clause-err
returns-in_err-read-clause-err c =
    let p = err_from_is_err_and c.from_residual-in_err-read.result c.from_residual-in_err-read.ensures.1 in
    let words = c.args.proof.now in
    rw (p.1, p.2) (λ view theorem.
    let begins = begun (goal.at.returns-in_err-read-clause-err c).After-next_word-open view theorem in
    let listed = c.in_ok-close.ensures.ok view (mandatory_labels view c.args.i) words theorem.base begins in
    let labels = c.read_list.new.labels in
    let len : length (entry_steps view labels.items) ≡ c.len.result = omega (arith, length-map labels.items (entry_step view), c.len.ensures, labels.ok.0) in
    fails_so view c.args.i words theorem.says _ (rw c.requires.compressed
    (compressed_err view c.args.i (mandatory_labels view c.args.i) words c.in_ok-close.close labels.items _ listed
    (c.in_err-read.ensures.err (entry_steps view labels.items) words len (c.in_ok-close.ensures.behind words begins.left)))))

pub returns-clause-ok : goal.returns-clause-ok
returns-clause-ok c view theorem =
    let i = c.args.i in
    let words = c.args.proof.now in
    let mandatory = mandatory_labels view i in
    let begins = begun (goal.at.returns-clause-ok c).After-next_word-open view theorem in
    let listed = c.in_ok-close.ensures.ok view mandatory words theorem.base begins in
    let labels = c.read_list.new.labels in
    let steps = c.in_ok-read.read.steps.items in
    let len : length (entry_steps view labels.items) ≡ c.len.result = omega (arith, length-map labels.items (entry_step view), c.len.ensures, labels.ok.0) in
    record {
      theorem = theorem;
      decodes = decodes_so view i words theorem.says (entry_steps view labels.items) steps (rw c.requires.compressed
          (compressed_ok view i mandatory words c.in_ok-close.close labels.items steps listed
          (c.in_ok-read.ensures.ok (entry_steps view labels.items) words len (c.in_ok-close.ensures.behind words begins.left))));
      entries = listed.entries;
      table = rw c.requires.compressed (compressed_table view i mandatory words c.in_ok-close.close labels.items listed);
    }
