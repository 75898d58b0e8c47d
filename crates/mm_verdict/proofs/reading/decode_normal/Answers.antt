use Rattle.std.proofs.{lemmas.{List.{length-append}, Result.{err_from_is_err_and}}, Common.{◌≤◌, false, [], ◌∷◌, length, ap, arith}}
use Rattle.mm_verdict.proofs.lemmas.{machine.MarkedLabels.{marks_next}, decoding.{LeftLemmas.{take_one, none_left}, NormalLemmas.{word_on, word_fails, table_is, finishes}}}
use Rattle.mm_verdict.{proofs.lemmas.decoding.DecodeLemmas.{decodes_so, fails_so}, specs.Language.DecodedSteps.{entry_steps}}
use Rattle.mm_verdict.proofs.reading.decode_normal.Goals as goal

pub loop-word-preserved : goal.loop-word-preserved
loop-word-preserved c =
    let word = c.in-Some.word.now in
    let took = take_one c.args.proof.now c.loop-word.words c.next_word.new.self c.loop-word.n word c.loop-word.invariant.left c.in-Some.ensures in
    let e = c.in_ok-label.ensures in
    let at = c.loop-word in
    let read = c.in_ok-label in
    record {
      left = took.left;
      table = omega (arith, ap length c.in_ok-push.ensures.items, length-append at.labels.items (read.label ∷ []), at.invariant.table);
      count = omega (arith, c.mark.ensures.count, ap length c.in_ok-push-3.ensures.items, length-append at.used.items (false ∷ []), at.invariant.count);
      marks = marks_next at.used.items _ _ at.steps.items _ _ at.invariant.marks c.in_ok-push-3.ensures.items c.mark.ensures.each c.in_ok-push-2.ensures.items;
      normal = λ view is.
          let normal = at.invariant.normal view is in
          rw (c.in_ok-push.ensures.items, c.in_ok-push-2.ensures.items) (word_on view c.args.i c.args.proof.now at.n at.labels.items at.steps.items normal word
          read.label read.action took.within took.is (e.ok view is) (λ before after len. e.action view before after is len) (e.entry view is));
    }

pub returns-in_err-label-clause-err : goal.returns-in_err-label-clause-err
returns-in_err-label-clause-err c =
    let p = err_from_is_err_and c.from_residual.result c.from_residual.ensures.1 in
    let words = c.args.proof.now in
    let at = c.loop-word in
    let took = take_one words at.words c.next_word.new.self at.n c.in-Some.word.now at.invariant.left c.in-Some.ensures in
    rw (p.1, p.2) (λ view theorem.
    fails_so view c.args.i words theorem.says _ (rw c.requires
    (word_fails view c.args.i words at.n at.labels.items at.steps.items (at.invariant.normal view theorem.base) c.in-Some.word.now _ took.within took.is
    (c.in_err-label.ensures.err view theorem.base))))

pub returns-clause-ok : goal.returns-clause-ok
returns-clause-ok c view theorem =
    let words = c.args.proof.now in
    let at = c.loop-word in
    let labels = at.labels.items in
    let steps = at.steps.items in
    let normal = at.invariant.normal view theorem.base in
    let past : length words ≤ at.n = omega (arith, none_left words at.words at.n at.invariant.left c.in_default.ensures.0) in
    record {
      theorem = theorem;
      decodes = decodes_so view c.args.i words theorem.says (entry_steps view labels) steps (rw c.requires (finishes view c.args.i words at.n labels steps normal past));
      entries = normal.entries;
      table = rw c.requires (table_is view c.args.i words at.n labels steps normal past);
    }
