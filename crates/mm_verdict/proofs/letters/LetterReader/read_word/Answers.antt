use Rattle.std.proofs.{lemmas.{Grind.{common_steps}, Result.{err_from_is_err_and}, List.{drop_all}}, Common.{List, length, ◌∙◌, ◌+◌, ◌-◌, ◌++◌, subst, arith}}
use Rattle.mm_verdict.{specs.{Language.Letters.{Letter}, Code.Reader.{ReadsLetters}}, proofs.lemmas.decoding.ReaderLemmas.{letters_on, letter_more}}
use Rattle.mm_verdict.proofs.letters.LetterReader.read_word.Goals as goal

pub returns-in_err-read-clause-err : goal.returns-in_err-read-clause-err
returns-in_err-read-clause-err c =
    let p = err_from_is_err_and c.from_residual-in_err-read.result c.from_residual-in_err-read.ensures.1 in
    rw (p.1, p.2) (λ aim ls goes.
    c.in_err-read.ensures.err aim (letters_on c.args.n (c.loop-letter.letter + 1) c.args.word.now ++ ls)
    (subst (λ (w : List Letter). ReadsLetters aim c.loop-letter.reader (w ++ ls)) (letter_more c.args.n c.loop-letter.letter c.args.word.now c.loop-letter-test.true) (c.loop-letter.invariant.reads aim ls goes)))

pub returns-clause-ok : goal.returns-clause-ok
returns-clause-ok c aim ls goes = grind (arith, common_steps, drop_all c.loop-letter.letter c.args.word.now (omega arith), c.loop-letter.invariant.reads aim ls goes) steps 200000

pub loop-letter-preserved : goal.loop-letter-preserved
loop-letter-preserved c =
    let word = c.args.word.now in
    let n = c.loop-letter.letter in
    record {
      labels = c.in_ok-read.ensures.labels ∙ c.loop-letter.invariant.labels;
      room = c.in_ok-read.ensures.room (length word - (n + 1)) (omega (arith, c.loop-letter.invariant.room, c.loop-letter-test.true));
      reads = λ aim ls goes.
          c.in_ok-read.ensures.ok aim (letters_on c.args.n (n + 1) word ++ ls)
          (subst (λ (w : List Letter). ReadsLetters aim c.loop-letter.reader (w ++ ls)) (letter_more c.args.n n word c.loop-letter-test.true) (c.loop-letter.invariant.reads aim ls goes));
    }
