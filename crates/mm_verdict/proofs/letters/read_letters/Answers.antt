use Rattle.std.proofs.{Common.{◌≡◌, ◌+◌, length, ap, subst, arith, IfOk}, lemmas.Result.{err_from_is_err_and, IfOk-weaker}}
use Rattle.mm_verdict.{specs.{Language.{Decoding.{word_spot}, Letters.{letters_from}}, Code.{Reader.{ReadsLetters}, UsedLabels.{AreUseMarks}}}, proofs.lemmas.decoding.LeftLemmas.{total_is}}
use Rattle.mm_verdict.proofs.lemmas.decoding.ReaderLemmas.{aim_of, if_err}
use Rattle.mm_verdict.proofs.letters.read_letters.Goals as goal

pub returns-in_err-reader-2-clause-err : goal.returns-in_err-reader-2-clause-err
returns-in_err-reader-2-clause-err c =
    let p = err_from_is_err_and c.from_residual-in_err-reader-2.result c.from_residual-in_err-reader-2.ensures.1 in
    rw (p.1, p.2) (λ names all len left.
    let aim = aim_of names all c.args.from in
    let goes = c.loop-word.invariant.goes aim (c.in_ok-reader.ensures.reads aim (letters_from c.args.from c.args.words.now) len (total_is names all c.args.words.now c.args.from left)) in
    c.in_err-reader-2.ensures.err aim (letters_from (c.loop-word.n + 1) c.next_word.new.self) (subst (λ ws. ReadsLetters aim c.loop-word.reader (letters_from c.loop-word.n ws)) c.in-Some.ensures goes))

pub returns : goal.returns
returns c = record {
  marks = subst (λ n. IfOk c.end.result (λ read. AreUseMarks n read.used.items read.steps.items)) c.loop-word.invariant.labels c.end.ensures.marks;
  ok = IfOk-weaker c.end.result _ _ (λ read says names all len left.
      let aim = aim_of names all c.args.from in
      let goes = c.loop-word.invariant.goes aim (c.in_ok-reader.ensures.reads aim (letters_from c.args.from c.args.words.now) len (total_is names all c.args.words.now c.args.from left)) in
      let last : length all ≡ c.loop-word.n = omega (arith, c.loop-word.invariant.count, left.count, ap length c.in_default.ensures.0) in
      says aim (ap word_spot last) (subst (λ ws. ReadsLetters aim c.loop-word.reader (letters_from c.loop-word.n ws)) c.in_default.ensures.0 goes)) c.end.ensures.ok;
  err = if_err _ _ c.end.result (λ e says names all len left.
      let aim = aim_of names all c.args.from in
      let goes = c.loop-word.invariant.goes aim (c.in_ok-reader.ensures.reads aim (letters_from c.args.from c.args.words.now) len (total_is names all c.args.words.now c.args.from left)) in
      let last : length all ≡ c.loop-word.n = omega (arith, c.loop-word.invariant.count, left.count, ap length c.in_default.ensures.0) in
      says aim (ap word_spot last) (subst (λ ws. ReadsLetters aim c.loop-word.reader (letters_from c.loop-word.n ws)) c.in_default.ensures.0 goes)) c.end.ensures.err;
}
